-- A table of a gadget: each variable as a sum of randoms and of products of input shares.
use Rattle.std.specs.Prelude.{◌≡◌, ◌≢◌, ℕ, ◌+◌, ◌/◌, ◌%◌, ◌<◌, ◌≤◌, ◌^◌, ◌==◌, Bool, false, List, [], length, map, slice_index_or, All, AllPairs}
use Rattle.std.specs.List.{range_with_len}
use Rattle.std.specs.Int.{bit_at}
use Rattle.gadget_model.specs.Bits.{add}
use Rattle.gadget_model.specs.Circuit.{Circuit, value}
use Rattle.gadget_limits.specs.Limits.{most_variables}
use Rattle.gadget_model.specs.Simulation.{HasShare}
use Rattle.gadget_model.specs.Polynomials.{set_product}
use Rattle.gadget_tree.specs.Gadgets.{IsInputShare}
use Rattle.bit_lists.specs.BitLists.{chosen_sum}
use Rattle.bit_lists.specs.SetSums.{set_sum}
use Rattle.wire_table.specs.Uses.{uses_of}

-- The table of a gadget. `products` are the products of input shares that the variables need, each as the set of its
-- shares, which is a number. By variable, `random_rows` has the set of its randoms, `share_rows` the places of its
-- products, as bits in words of 64, and `uses` how many operand places name it.
pub record Table : Type 0 where
  pub random_rows : List ℕ
  pub share_rows : List (List ℕ)
  pub products : List ℕ
  pub uses : List ℕ

-- whether a row has bit j: bit j % 64 of its word j / 64
abbrev pub has_bit : List ℕ → ℕ → Bool
has_bit row j = bit_at (slice_index_or row (j / 64) 0) (j % 64) == 1

-- the first n bits of a row
abbrev pub row_bits : ℕ → List ℕ → List Bool
row_bits n row = map (has_bit row) (range_with_len 0 n)

-- the random with a number, in an assignment of the randoms
abbrev pub random_at : List Bool → ℕ → Bool
random_at r k = slice_index_or r k false

-- the values of products of shares, at inputs x
abbrev pub product_values : List ℕ → (ℕ → Bool) → List Bool
product_values products x = map (λ set. set_product 64 set x) products

-- the sum of a variable's products, at inputs x
abbrev pub shares_value : Table → ℕ → (ℕ → Bool) → Bool
shares_value t v x =
    chosen_sum (row_bits (length t.products) (slice_index_or t.share_rows v [])) (product_values t.products x)

-- the sum of a variable's randoms, of which there are n, at an assignment r
abbrev pub randoms_value : Table → ℕ → ℕ → List Bool → Bool
randoms_value t n v r = set_sum n (slice_index_or t.random_rows v 0) (random_at r)

-- how many words a row of n bits has
abbrev pub words_for : ℕ → ℕ
words_for n = (n + 63) / 64

-- There are at most this many products of at most two of 64 input shares.
abbrev pub most_products : ℕ
most_products = 4096

-- what holds of each table: there is a row of each kind for each variable, and the words of a share row have a bit for
-- each product
pub record IsTable (t : Table) : Type 0 where
  pub few_variables : length t.random_rows ≤ most_variables
  pub every_share_row : length t.share_rows ≡ length t.random_rows
  pub every_use : length t.uses ≡ length t.random_rows
  pub few_products : length t.products ≤ most_products
  pub words : All (λ row. length row ≡ words_for (length t.products)) t.share_rows
  pub small_products : All (λ p. p < 2 ^ 64) t.products

-- A table stands for a gadget: it has the gadget's variables, and for all inputs x and each assignment r of the randoms
-- the randoms of a variable's row and the products of its row sum to the variable's value. A random row has only
-- randoms of the gadget, a share row only places of products. Different products are of different sets of shares, all
-- of them input shares of the gadget.
pub record StandsFor (t : Table) (g : Circuit) : Type 0 where
  pub every_random_row : length t.random_rows ≡ length g.variables
  pub every_share_row : length t.share_rows ≡ length g.variables
  pub every_use : length t.uses ≡ length g.variables
  pub values : (v : ℕ) → v < length g.variables → (x : ℕ → Bool) (r : List Bool) → length r ≡ g.randoms →
      value g x r v ≡ add (shares_value t v x) (randoms_value t g.randoms v r)
  pub randoms : All (λ row. row < 2 ^ g.randoms) t.random_rows
  pub places : All (λ row. (j : ℕ) → length t.products ≤ j → has_bit row j ≡ false) t.share_rows
  pub distinct : AllPairs (λ a b. a ≢ b) t.products
  pub inputs : All (λ set. (k : ℕ) → HasShare set k → IsInputShare g k) t.products
  pub uses : (v : ℕ) → v < length g.variables → slice_index_or t.uses v 0 ≡ uses_of g v
