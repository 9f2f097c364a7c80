-- Failing is inherited by larger tuples.
use Rattle.std.proofs.Common.{ℕ, List, [], map, get_or, inl, inr, Contains}
use Rattle.std.proofs.lemmas.List.Elements.{Contains-append_left, Contains-append_right, Contains-append_cases}
use Rattle.gadget_model.specs.Circuit.{Circuit}
use Rattle.gadget_model.proofs.Simulations.{IsSimulatable-fewer}
use Rattle.tuple_model.specs.Tuples.{IsSubset}
use Rattle.wire_table.specs.Items.{Item, variables_in}
use Rattle.wire_table.proofs.ShareProducts.{Contains-flat_map, Contains-from_flat_map}
use Rattle.rp_events.specs.Events.{Event}
use Rattle.rp_events.specs.Failing.{FailsEvent, simulated, shares_in}

-- what a part of a tuple observes, the tuple observes
simulated-subset : (g : Circuit) (items : List Item) (s u : List ℕ) (outputs : ℕ) → IsSubset s u → (v : ℕ) →
    Contains (simulated g items s outputs) v → Contains (simulated g items u outputs) v
simulated-subset g items s u outputs within v c =
    let at : ℕ → List ℕ = λ i. get_or (map (λ (item : Item). item.variables) items) i [] in
    elim (Contains-append_cases (variables_in items s) (shares_in g outputs) v c) [
      | inl m ↦
          let f = Contains-from_flat_map at s v m in
          Contains-append_left (variables_in items u) (shares_in g outputs) v (Contains-flat_map at u f.0 v (within f.0 f.1) f.2)
      | inr m ↦ Contains-append_right (variables_in items u) (shares_in g outputs) v m
    ]

pub FailsEvent-inherited : (g : Circuit) (t : ℕ) (event : Event) (items : List Item) (s u : List ℕ) → IsSubset s u →
    FailsEvent g t event items s → FailsEvent g t event items u
FailsEvent-inherited g t event items s u within fails outputs c set sim =
    fails outputs c set
    (IsSimulatable-fewer g (simulated g items u outputs) (simulated g items s outputs) set set sim (simulated-subset g items s u outputs within) (λ k h. h))
