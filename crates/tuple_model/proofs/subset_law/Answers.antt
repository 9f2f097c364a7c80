use Rattle.tuple_model.proofs.Subsets.{subset-from_members, subset-whole, subset-proper, subset-number, IsRising-subset, member-from_subset}
use Rattle.std.proofs.Common.{◌≡◌, ℕ, ◌^◌, ◌<◌, List, length, subst, Contains}
use Rattle.tuple_model.specs.Tuples.{IsRising, subset}
use Rattle.tuple_model.proofs.subset_law.Goals as goal

subset-sound : (items : ℕ) (s t : List ℕ) → IsRising 0 items t → (k : ℕ) × (k < 2 ^ length t) × (subset k t ≡ s) →
    IsRising 0 items s × ((i : ℕ) → Contains s i → Contains t i)
subset-sound items s t h r =
    let P : List ℕ → Type 0 = λ u. IsRising 0 items u × ((i : ℕ) → Contains u i → Contains t i) in
    subst P r.2 (IsRising-subset r.0 0 items t h, member-from_subset r.0 t)

pub returns-clause-subsets : goal.returns-clause-subsets
returns-clause-subsets c = λ items s t h. (subset-sound items s t h, λ k. subset-from_members 0 items t s h k.0 k.1)

pub returns-clause-whole : goal.returns-clause-whole
returns-clause-whole c = subset-whole

pub returns-clause-proper : goal.returns-clause-proper
returns-clause-proper c = subset-proper

pub returns-clause-once : goal.returns-clause-once
returns-clause-once c = λ items. subset-number 0 items
