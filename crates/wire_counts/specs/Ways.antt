-- How many sets of wires have exactly the items of a tuple, as the code counts them.
use Rattle.std.specs.Prelude.{◌≡◌, ℕ, zero, suc, ◌+◌, ◌-◌, ◌*◌, ◌%◌, ◌^◌, ◌<◌, ◌≤◌, All, List, [], ◌∷◌, length, take}
use Rattle.std.specs.Prelude.{drop, slice_index, if◌then◌else◌, nat_lt}
use Rattle.std.specs.List.{sum_by}
use Rattle.tuple_model.specs.Limits.{most_items, most_size}
use Rattle.tuple_model.specs.Tuples.{rising, tuples}
use Rattle.tuple_model.specs.Minimal.{Picks}
use Rattle.wire_counts.specs.Limits.{most_weight}

-- in how many ways one more than so many of an item's wires are chosen
abbrev pub ways_to_choose : ℕ → ℕ → ℕ
ways_to_choose weight more = length (rising (suc more) weight 0)

-- the numbers are the binomial coefficients of the first one, which is the weight of an item
abbrev pub AreBinomials : List ℕ → Type 0
AreBinomials numbers = (more : ℕ) → more < most_size →
    slice_index numbers more ≡ ways_to_choose (slice_index numbers 0) more

-- the convolution of two sequences: a(0) b(n) + a(1) b(n - 1) + .. + a(n) b(0)
abbrev pub convolution : (ℕ → ℕ) → (ℕ → ℕ) → ℕ → ℕ
convolution a b zero = a 0 * b 0
convolution a b (suc n) = a 0 * b (suc n) + convolution (λ k. a (suc k)) b n

-- how many sets of wires have exactly the tuple's items, of so many more wires than it has items
abbrev pub exact_sets : List ℕ → List ℕ → ℕ → ℕ
exact_sets weights [] zero = 1
exact_sets weights [] (suc more) = 0
exact_sets weights (item ∷ t) more = convolution (ways_to_choose (slice_index weights item)) (exact_sets weights t) more

-- how many sets of i wires have exactly the tuple's items
abbrev pub sets_with : List ℕ → List ℕ → ℕ → ℕ
sets_with weights t i = if nat_lt i (length t) then 0 else exact_sets weights t (i - length t)

-- to the number of sets of each size up to `size` came those with exactly the tuple's items
abbrev pub AddsSets : List ℕ → ℕ → List ℕ → List ℕ → List ℕ → Type 0
AddsSets weights size t old new = (i : ℕ) → i ≤ size → slice_index new i ≡ slice_index old i + sets_with weights t i

-- so few items of such small weights, and sets of so few wires, that all counts fit
pub record IsWithinLimits (weights : List ℕ) (size : ℕ) : Type 0 where
  pub items : length weights ≤ most_items
  pub small : All (λ weight. weight ≤ most_weight) weights
  pub short : size ≤ most_size

-- the tuples with a rank from `from` on and below `to`
abbrev pub ranked : ℕ → ℕ → ℕ → ℕ → List (List ℕ)
ranked items size from to = take (to - from) (drop from (tuples items size))

-- for each i up to `size`, how many sets of i wires have exactly the items of a failing tuple with a rank in the range
pub record AreCounted (Fails : List ℕ → Type 0) (weights : List ℕ) (size from to : ℕ) (numbers : List ℕ) : Type 0 where
  pub failing : List (List ℕ)
  pub picked : Picks Fails (ranked (length weights) size from to) failing
  pub each : (i : ℕ) → i ≤ size → slice_index numbers i ≡ sum_by (λ t. sets_with weights t i) failing

-- two rows of numbers, added place by place as far as numbers have 128 bits
abbrev pub AreAdded : List ℕ → List ℕ → List ℕ → Type 0
AreAdded xs ys sums = (i : ℕ) → i ≤ most_size → slice_index sums i ≡ (slice_index xs i + slice_index ys i) % 2 ^ 128
