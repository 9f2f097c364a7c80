-- The variables of a tuple's items: how many they are, and those of its first items and of one item more.
use Rattle.std.proofs.Common.{◌≡◌, ◌*◌, ◌<◌, ◌≤◌, ℕ, List, [], ◌∷◌, ◌++◌, length, get_or, take, drop, ap, sym, ◌∙◌, subst, arith, append-nil, length-append}
use Rattle.std.specs.List.{All}
use Rattle.std.proofs.Math.ListN.{length-map}
use Rattle.std.proofs.Math.Seq.{take-append_seam}
use Rattle.std.proofs.lemmas.Grind.{flat_map-append}
use Rattle.std.proofs.lemmas.List.{get_or-map, take-append-drop, take-take}
use Rattle.std.proofs.lemmas.List.Elements.{All-head, All-map, All-tail}
use Rattle.gadget_limits.specs.Limits.{most_outputs}
use Rattle.wire_table.specs.Items.{Item}
use Rattle.wire_table.specs.CodeItems.{HasVariablesBelow, ObservesFew}
use Rattle.arrayvec.specs.ArrayVec.{ArrayVec}
use Rattle.needed.specs.HeldItems.{AreObserved, observed_of}
use Rattle.needed.specs.TestedItems.{observed_by, variables_at}

-- what an item observes, where it is stored
pub observed_at : (stored : List (ArrayVec ℕ)) (i : ℕ) (d : ArrayVec ℕ) → i < length stored →
    get_or (observed_of stored) i [] ≡ (get_or stored i d).items
observed_at stored i d l = get_or-map (λ (vars : ArrayVec ℕ). vars.items) stored i d [] l

pub within_observed : (stored : List (ArrayVec ℕ)) (t : List ℕ) → All (λ i. i < length stored) t → All (λ i. i < length (observed_of stored)) t
within_observed stored t there =
    subst (λ (n : ℕ). All (λ i. i < n) t) (sym (length-map stored (λ (vars : ArrayVec ℕ). vars.items))) there

module _ (observed : List (List ℕ)) where
  variables_at-append : (s t : List ℕ) → variables_at observed (s ++ t) ≡ variables_at observed s ++ variables_at observed t
  variables_at-append s t = flat_map-append (λ (i : ℕ). get_or observed i []) s t

  -- one item more
  pub variables_at-push : (t : List ℕ) (i : ℕ) → variables_at observed (t ++ i ∷ []) ≡ variables_at observed t ++ get_or observed i []
  variables_at-push t i =
      variables_at-append t (i ∷ []) ∙ ap (λ (vars : List ℕ). variables_at observed t ++ vars) (append-nil (get_or observed i []))

  -- where the variables of some items stand first, those of the first of these do
  pub variables_at-take : (t vars : List ℕ) (k : ℕ) → take (length (variables_at observed t)) vars ≡ variables_at observed t →
      take (length (variables_at observed (take k t))) vars ≡ variables_at observed (take k t)
  variables_at-take t vars k held =
      let first = variables_at observed (take k t) in
      let rest = variables_at observed (drop k t) in
      let whole : variables_at observed t ≡ first ++ rest =
      ap (variables_at observed) (sym (take-append-drop k t)) ∙ variables_at-append (take k t) (drop k t) in
      let few : length first ≤ length (variables_at observed t) =
      let a = ap (λ (xs : List ℕ). length xs) whole in let b = length-append first rest in omega arith in
      sym (take-take (length first) (length (variables_at observed t)) vars few)
      ∙ ap (take (length first)) (held ∙ whole) ∙ take-append_seam first rest

  -- each item has at most two
  pub variables_at-few : (bound : ℕ) (t : List ℕ) → AreObserved bound observed → All (λ i. i < length observed) t →
      length (variables_at observed t) ≤ 2 * length t
  variables_at-few bound [] are there = omega arith
  variables_at-few bound (i ∷ t) are there =
      let l : i < length observed = All-head (λ k. k < length observed) i t there in
      let few = (are i [] l).0 in
      let rest = variables_at-few bound t are (All-tail (λ k. k < length observed) i t there) in
      let a = length-append (get_or observed i []) (variables_at observed t) in
      omega arith

-- what items observe that fit the table
pub AreObserved-items : (bound : ℕ) (items : List Item) → All ObservesFew items → All (HasVariablesBelow bound) items → AreObserved bound (observed_by items)
AreObserved-items bound items few below =
    All-map (λ (vars : List ℕ). (length vars ≤ most_outputs) × All (λ v. v < bound) vars) (λ (item : Item). item.variables) items (λ k d l. (few k d l, below k d l))
