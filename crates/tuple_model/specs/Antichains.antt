-- Lists of tuples of which none is a subset of another, and the tuples that such a list covers.
use Rattle.std.specs.Prelude.{◌≡◌, ◌↔◌, ◌⊎◌, ℕ, List, All, AllPairs, Contains}
use Rattle.tuple_model.specs.Limits.{most_items, most_size}
use Rattle.tuple_model.specs.Tuples.{IsTuple, IsBefore, IsSubset}

-- a list covers a tuple where some member is a subset of it
abbrev pub Covers : List (List ℕ) → List ℕ → Type 0
Covers list t = (s : List ℕ) × Contains list s × IsSubset s t

-- tuples in order, none a subset of another
pub record IsAntichain (list : List (List ℕ)) : Type 0 where
  pub tuples : All (IsTuple most_items most_size) list
  pub ordered : AllPairs IsBefore list
  pub apart : (s t : List ℕ) → Contains list s → Contains list t → IsSubset s t → s ≡ t

-- two lists cover the same tuples
abbrev pub CoversSame : List (List ℕ) → List (List ℕ) → Type 0
CoversSame one other = (t : List ℕ) → Covers one t ↔ Covers other t

-- some failing tuple of at most `size` of the items is a subset of the tuple
abbrev pub HasFailingSubset : (List ℕ → Type 0) → ℕ → ℕ → List ℕ → Type 0
HasFailingSubset Fails items size t = (s : List ℕ) × IsTuple items size s × Fails s × IsSubset s t

-- the list covers exactly the tuples that have a failing subset
abbrev pub CoversFailing : (List ℕ → Type 0) → ℕ → ℕ → List (List ℕ) → Type 0
CoversFailing Fails items size list = (t : List ℕ) → Covers list t ↔ HasFailingSubset Fails items size t

-- the tuple came into the list, and its supersets went
abbrev pub Adds : List (List ℕ) → List ℕ → List (List ℕ) → Type 0
Adds before t after =
    (member : List ℕ) → Contains after member ↔ ((member ≡ t) ⊎ (Contains before member × (IsSubset t member → ⊥)))

-- the list covers what it covered, and the supersets of the tuple
abbrev pub CoversMore : List (List ℕ) → List ℕ → List (List ℕ) → Type 0
CoversMore before t after = (u : List ℕ) → Covers after u ↔ (Covers before u ⊎ IsSubset t u)
