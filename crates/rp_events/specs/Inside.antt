-- The fields of a query as a question, and what holds of what it keeps.
use Rattle.std.specs.Prelude.{◌≡◌, ℕ, ◌≤◌, List, ◌++◌, length, map, All, Contains}
use Rattle.gadget_model.specs.Circuit.{Circuit}
use Rattle.gadget_model.specs.Simulation.{IsSimulatable}
use Rattle.gadget_tree.specs.Gadgets.{IsGadget}
use Rattle.tuple_model.specs.Limits.{most_items, most_size}
use Rattle.wire_table.specs.Tables.{StandsFor}
use Rattle.wire_table.specs.CodeItems.{HasSmallWeight, item_of, ObservesFew, HasVariablesBelow}
use Rattle.wire_table.specs.Uses.{wire_items}
use Rattle.wire_table.specs.declared.which.Which.{Which}
use Rattle.rp_events.specs.declared.query.EventQuery.TheInside.{Inside}
use Rattle.rp_events.specs.Failing.{Exceeds, shares_in}
use Rattle.rp_events.specs.Questions.{EventQuestion, IsEventOf, event_of}

abbrev pub event_asked : Inside → EventQuestion
event_asked q = record {
  event = event_of q.event.now;
  gadget = q.gadget.now;
  table = q.table.now;
  t = q.t;
  size = q.size;
  wires = q.wires;
}

-- whichever of these lists is simulated beside some variables, and from whichever input shares, these exceed
abbrev pub AllExceed : Circuit → ℕ → Which → List ℕ → List (List ℕ) → Type 0
AllExceed g t which variables lists =
    All (λ others. (set : ℕ) → IsSimulatable g (variables ++ others) set → Exceeds g t which set) lists

-- some of these lists is simulated beside some variables from input shares that don't exceed
abbrev pub SomeDoNotExceed : Circuit → ℕ → Which → List ℕ → List (List ℕ) → Type 0
SomeDoNotExceed g t which variables lists =
    (others : List ℕ) × Contains lists others
    × (set : ℕ) × IsSimulatable g (variables ++ others) set × (Exceeds g t which set → ⊥)

-- The table stands for the gadget, the size is small, the event is of the gadget, the items are the wires', and the
-- lists of output shares are those of the event's sets. The items are few, each fits what the test works in, and each
-- stands for few wires.
pub record IsPreparedEvent (q : Inside) : Type 0 where
  pub gadget : IsGadget q.gadget.now
  pub table : StandsFor q.table.now q.gadget.now
  pub small : q.size ≤ most_size
  pub event : IsEventOf q.gadget.now (event_of q.event.now)
  pub items : map item_of q.list.items ≡ wire_items q.wires q.gadget.now
  pub few_items : length (wire_items q.wires q.gadget.now) ≤ most_items
  pub few_variables : All ObservesFew (wire_items q.wires q.gadget.now)
  pub variables : All (HasVariablesBelow (length q.gadget.now.variables)) (wire_items q.wires q.gadget.now)
  pub weights : All HasSmallWeight (map item_of q.list.items)
  pub lists : map (λ vars. vars.items) q.outputs.items ≡ map (shares_in q.gadget.now) q.event.now.sets.items
