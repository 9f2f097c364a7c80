-- The events of the code, and the question whether tuples of leaking wires fail for one.
use Rattle.std.specs.Prelude.{◌≡◌, ◌≢◌, ℕ, ◌/◌, ◌%◌, ◌<◌, List, length, All, Contains, Some, None, Result, Ok, Err}
use Rattle.std.specs.Int.{bit_at}
use Rattle.gadget_limits.specs.Limits.{most_inputs}
use Rattle.gadget_model.specs.Circuit.{Circuit}
use Rattle.gadget_model.specs.Simulation.{IsSimulatable}
use Rattle.mask_terms.specs.declared.wires.Wires.{Wires}
use Rattle.wire_table.specs.Tables.{Table}
use Rattle.wire_table.specs.Items.{Item}
use Rattle.wire_table.specs.Uses.{wire_items}
use Rattle.wire_table.specs.declared.which.Which.{Which}
use Rattle.wire_table.specs.declared.which.Which.TheVariants.{Any, Input, Both}
use Rattle.rp_events.specs.Events.{Event, events_of, refusal}
use Rattle.rp_events.specs.Failing.{FailsEvent, Exceeds, simulated}
use Rattle.rp_events.specs.declared.rp.Rp.{Rp}
use Rattle.rp_events.specs.declared.rp.RpError.{RpError}
use Rattle.rp_events.specs.declared.rp.RpError.TheVariants.{OutOfMemory}
use Rattle.rp_events.specs.declared.event.Event as code

-- an event of the code's
abbrev pub event_of : code.Event → Event
event_of event = record { name = event.name; sets = event.sets.items; which = event.which }

-- The events, or why there are none, want of memory aside.
abbrev pub GivesEvents : Rp → Circuit → ℕ → Result (List Event) RpError → Type 0
GivesEvents rp g t (Ok events) = (refusal rp g t ≡ None) × (events ≡ events_of rp g t)
GivesEvents rp g t (Err error) = error ≢ OutOfMemory → refusal rp g t ≡ Some error

-- each bit of a set stands for a share of an output
abbrev pub IsOutputSet : Circuit → ℕ → Type 0
IsOutputSet g set = (k : ℕ) → bit_at set k ≡ 1 → (k / 16 < length g.outputs) × (k % 16 < g.shares)

-- the sets of an event are of output shares
abbrev pub AreOutputSets : Circuit → Event → Type 0
AreOutputSets g event = All (IsOutputSet g) event.sets

-- it asks about inputs that there may be
abbrev pub IsSmallWhich : Which → Type 0
IsSmallWhich Any = Unit {0}
IsSmallWhich (Input k) = k < most_inputs
IsSmallWhich Both = Unit {0}

-- The event is of this gadget: its sets are of output shares, and it asks about inputs that there may be.
pub record IsEventOf (g : Circuit) (event : Event) : Type 0 where
  pub outputs : AreOutputSets g event
  pub which : IsSmallWhich event.which

-- what is asked: an event of an order, of a gadget, with its table, and tuples of at most `size` of these wires' items
pub record EventQuestion : Type 0 where
  pub event : Event
  pub gadget : Circuit
  pub table : Table
  pub t : ℕ
  pub size : ℕ
  pub wires : Wires

-- the items of which it is asked
abbrev pub leaking_items : EventQuestion → List Item
leaking_items q = wire_items q.wires q.gadget

-- the tuples that fail for a question
abbrev pub FailsAsked : EventQuestion → List ℕ → Type 0
FailsAsked q = FailsEvent q.gadget q.t q.event (leaking_items q)

-- A tuple passes: some set of the event's output shares is simulated with it from input shares that don't exceed.
abbrev pub PassesEvent : Circuit → ℕ → Event → List Item → List ℕ → Type 0
PassesEvent g t event items tuple =
    (outputs : ℕ) × Contains event.sets outputs
    × (set : ℕ) × IsSimulatable g (simulated g items tuple outputs) set × (Exceeds g t event.which set → ⊥)
