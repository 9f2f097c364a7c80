-- What the laws of coefficients speak of: sets of wires, said without the list of them, and the premise under which an
-- answer tells all that fails.
use Rattle.std.specs.Prelude.{◌≡◌, ◌⊎◌, ℕ, ◌<◌, List, All, AllPairs, length, slice_index}
use Rattle.tuple_model.specs.Tuples.{IsSubset}
use Rattle.wire_counts.specs.Coefficients.{Wire}

-- the first wire stands before the second: its item does, or both are of one item and its copy does
abbrev pub IsEarlier : Wire → Wire → Type 0
IsEarlier a b = (a.item < b.item) ⊎ ((a.item ≡ b.item) × (a.copy < b.copy))

-- a set of i wires of items with these weights: different wires, in their order
pub record IsWireSet (weights : List ℕ) (i : ℕ) (set : List Wire) : Type 0 where
  pub count : length set ≡ i
  pub wires : All (λ wire. (wire.item < length weights) × (wire.copy < slice_index weights wire.item)) set
  pub rising : AllPairs IsEarlier set

-- a tuple fails where some of its items do
abbrev pub IsInherited : (List ℕ → Type 0) → Type 0
IsInherited Fails = (s t : List ℕ) → IsSubset s t → Fails s → Fails t
