-- When a tuple of leaking wires fails for an event.
use Rattle.std.specs.Prelude.{ℕ, ◌/◌, ◌%◌, ◌+◌, ◌*◌, ◌<◌, ◌==◌, List, ◌++◌, length, map, Contains, slice_index_or}
use Rattle.std.specs.Int.{bit_at}
use Rattle.std.specs.List.{filter, range_with_len}
use Rattle.gadget_model.specs.Circuit.{Circuit}
use Rattle.gadget_model.specs.Simulation.{IsSimulatable}
use Rattle.wire_table.specs.Items.{Item, variables_in}
use Rattle.wire_table.specs.declared.which.Which.{Which}
use Rattle.wire_table.specs.declared.which.Which.TheVariants.{Any, Input, Both}
use Rattle.needed.specs.ShareCounts.{shares_of}
use Rattle.rp_events.specs.Events.{Event}

-- a set of input shares exceeds: it has more than t shares of some input, of this input, or of each of the two inputs
abbrev pub Exceeds : Circuit → ℕ → Which → ℕ → Type 0
Exceeds g t Any set = (input : ℕ) × (input < length g.inputs) × (t < shares_of input set)
Exceeds g t (Input k) set = t < shares_of k set
Exceeds g t Both set = (t < shares_of 0 set) × (t < shares_of 1 set)

-- the variable of the output share with a number, 16 * output + index
abbrev pub output_variable : Circuit → ℕ → ℕ
output_variable g k = slice_index_or g.output_shares (g.shares * (k / 16) + k % 16) 0

-- the variables of a set of output shares, in order
abbrev pub shares_in : Circuit → ℕ → List ℕ
shares_in g set = map (output_variable g) (filter (λ k. bit_at set k == 1) (range_with_len 0 32))

-- what has to be simulated: the variables of a tuple's items, and then the output shares of a set
abbrev pub simulated : Circuit → List Item → List ℕ → ℕ → List ℕ
simulated g items tuple outputs = variables_in items tuple ++ shares_in g outputs

-- A tuple fails for an event: whichever set of its output shares is simulated with it, and from whichever input shares,
-- these exceed.
abbrev pub FailsEvent : Circuit → ℕ → Event → List Item → List ℕ → Type 0
FailsEvent g t event items tuple =
    (outputs : ℕ) → Contains event.sets outputs →
    (set : ℕ) → IsSimulatable g (simulated g items tuple outputs) set → Exceeds g t event.which set
