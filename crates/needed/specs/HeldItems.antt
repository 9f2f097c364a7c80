-- What is held of a tuple's items.
use Rattle.std.specs.Prelude.{◌≡◌, ℕ, ◌<◌, ◌≤◌, List, All, length, map, take}
use Rattle.gadget_limits.specs.Limits.{most_outputs}
use Rattle.tuple_model.specs.Limits.{most_size}
use Rattle.arrayvec.specs.ArrayVec.{ArrayVec}
use Rattle.needed.specs.declared.held_items.HeldItems.{HeldItems}
use Rattle.needed.specs.TestedItems.{variables_at}

-- the variables that each item observes, from where they are stored
abbrev pub observed_of : List (ArrayVec ℕ) → List (List ℕ)
observed_of stored = map (λ vars. vars.items) stored

-- each item observes at most one share of each output, and variables with numbers below a bound
abbrev pub AreObserved : ℕ → List (List ℕ) → Type 0
AreObserved bound observed = All (λ vars. (length vars ≤ most_outputs) × All (λ v. v < bound) vars) observed

abbrev pub held_by : HeldItems → List ℕ
held_by h = take h.count h.items

-- the items are there, and their variables are eliminated, before any others
pub record HoldsItems (observed : List (List ℕ)) (h : HeldItems) : Type 0 where
  pub places : length h.items ≡ most_size
  pub few : h.count ≤ most_size
  pub there : All (λ i. i < length observed) (held_by h)
  pub variables :
      take (length (variables_at observed (held_by h))) h.elimination.vars ≡ variables_at observed (held_by h)

-- the same with no others
pub record HoldsItemsAlone (observed : List (List ℕ)) (h : HeldItems) : Type 0 where
  pub places : length h.items ≡ most_size
  pub few : h.count ≤ most_size
  pub there : All (λ i. i < length observed) (held_by h)
  pub variables : h.elimination.vars ≡ variables_at observed (held_by h)
