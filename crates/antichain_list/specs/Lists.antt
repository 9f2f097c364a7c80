-- What is looked up in a list of tuples, and how the list grows.
use Rattle.std.specs.Prelude.{◌≡◌, ◌↔◌, ◌⊎◌, ℕ, List, Contains}
use Rattle.tuple_model.specs.Tuples.{IsBefore, IsSubset}
use Rattle.tuple_model.specs.Antichains.{Covers, Adds}
use Rattle.antichain_list.specs.declared.antichain.Added.{Added}
use Rattle.antichain_list.specs.declared.antichain.Added.TheVariants.{Kept, Covered}

-- the first member of the list that is a subset of the tuple
pub record IsFirstSubset (list : List (List ℕ)) (t s : List ℕ) : Type 0 where
  pub member : Contains list s
  pub subset : IsSubset s t
  pub first : (other : List ℕ) → Contains list other → IsSubset other t → (other ≡ s) ⊎ IsBefore s other

-- Where the list has a subset of the tuple it stays, and the first one is named; else the tuple is added.
abbrev pub MatchAdded : List (List ℕ) → List (List ℕ) → List ℕ → Added → Type 0
MatchAdded before after t Kept = (Covers before t → ⊥) × Adds before t after
MatchAdded before after t (Covered s) = IsFirstSubset before t s × (after ≡ before)

-- the tuple stands in one of the lists
abbrev pub InEither : List (List ℕ) → List (List ℕ) → List ℕ → Type 0
InEither one other t = Contains one t ⊎ Contains other t

-- the tuple stands in one of the lists, and no other tuple of either is a subset of it
pub record IsMinimalOf (one other : List (List ℕ)) (t : List ℕ) : Type 0 where
  pub listed : InEither one other t
  pub minimal : (s : List ℕ) → InEither one other s → IsSubset s t → s ≡ t

-- the list has exactly the minimal ones of the tuples of both
abbrev pub Joins : List (List ℕ) → List (List ℕ) → List (List ℕ) → Type 0
Joins one other joined = (t : List ℕ) → Contains joined t ↔ IsMinimalOf one other t

-- the list covers what either covers
abbrev pub CoversBoth : List (List ℕ) → List (List ℕ) → List (List ℕ) → Type 0
CoversBoth one other joined = (t : List ℕ) → Covers joined t ↔ (Covers one t ⊎ Covers other t)
