-- Rows of bits in words of 64.
use Rattle.std.specs.Prelude.{◌≡◌, ℕ, ◌/◌, ◌%◌, ◌^◌, ◌≤◌, Bool, false, List, length, slice_index_or, slice_set, bit_xor}
use Rattle.gadget_model.specs.Polynomials.{polynomial_value}
use Rattle.bit_lists.specs.BitLists.{chosen_sum}
use Rattle.wire_table.specs.Tables.{has_bit, row_bits, product_values, words_for}

-- a row with one bit flipped
abbrev pub flipped : List ℕ → ℕ → List ℕ
flipped row place = slice_set row (place / 64) (bit_xor (slice_index_or row (place / 64) 0) (2 ^ (place % 64)))

-- A row stands for some products: the products at its places have the same sum, at all inputs. It has a bit for each
-- product, and none past them.
pub record IsShareRow (products sets row : List ℕ) : Type 0 where
  pub words : length row ≡ words_for (length products)
  pub places : (j : ℕ) → length products ≤ j → has_bit row j ≡ false
  pub values : (x : ℕ → Bool) → chosen_sum (row_bits (length products) row) (product_values products x)
      ≡ polynomial_value 64 sets x
