-- The numbers of variables in the order of their names.
use Rattle.std.specs.Prelude.{◌≡◌, ℕ, ◌<◌, ◌≤◌, List, length, slice_index, reverse, All, AllPairs, Contains}
use Rattle.std.specs.declared.cmp.Ordering.{Ordering}
use Rattle.std.specs.declared.cmp.Ordering.TheVariants.{Less}
use Rattle.std.specs.Ordering.{nat_cmp}
use Rattle.std.specs.Cmp.Lexicographic.{slice_cmp}
use Rattle.gadget_model.specs.Circuit.{Variable}
use Rattle.gadget_tree.specs.Variables.{names_of, name_at, AreDistinct}

-- Names compare by their last bytes first: there the inner names of a line differ, however long they are.
abbrev pub compare_names : List ℕ → List ℕ → Ordering
compare_names v w = slice_cmp nat_cmp (reverse v) (reverse w)

abbrev pub ComesBefore : List ℕ → List ℕ → Type 0
ComesBefore v w = compare_names v w ≡ Less

-- the name of the variable whose number stands at a place
abbrev pub name_in : List Variable → List ℕ → ℕ → List ℕ
name_in variables numbers i = name_at variables (slice_index numbers i)

-- these numbers stand in the order of the names
abbrev pub AreByName : List Variable → List ℕ → Type 0
AreByName variables numbers = AllPairs (λ j k. ComesBefore (name_at variables j) (name_at variables k)) numbers

-- so many of the numbers, which stand first, have names that come before this one
pub record IsRank (variables : List Variable) (numbers : List ℕ) (name : List ℕ) (rank : ℕ) : Type 0 where
  pub within : rank ≤ length numbers
  pub before : (i : ℕ) → i < rank → ComesBefore (name_in variables numbers i) name
  pub others : (i : ℕ) → rank ≤ i → i < length numbers → ComesBefore (name_in variables numbers i) name → ⊥

-- the numbers of all variables, whose names differ, in the order of these names
pub record AreAllInOrder (variables : List Variable) (numbers : List ℕ) : Type 0 where
  pub distinct : AreDistinct (names_of variables)
  pub in_order : AreByName variables numbers
  pub below : All (λ k. k < length variables) numbers
  pub each : (k : ℕ) → k < length variables → Contains numbers k
