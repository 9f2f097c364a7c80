-- Items as the code has them, and what holds of those of a gadget.
use Rattle.std.specs.Prelude.{ℕ, ◌*◌, ◌<◌, ◌≤◌, All, length}
use Rattle.gadget_limits.specs.Limits.{most_outputs, most_variables}
use Rattle.wire_table.specs.Items.{Item}
use Rattle.wire_table.specs.declared.item.Item as code

-- an item of the code's
abbrev pub item_of : code.Item → Item
item_of item = record { name = item.name; variables = item.vars.items; kind = item.kind; weight = item.weight }

-- an item observes at most one share of each output
abbrev pub ObservesFew : Item → Type 0
ObservesFew item = length item.variables ≤ most_outputs

-- an item observes variables with numbers below a bound
abbrev pub HasVariablesBelow : ℕ → Item → Type 0
HasVariablesBelow bound item = All (λ v. v < bound) item.variables

-- An item of leaking wires stands for at most this many: each variable names another at most twice, and each time makes
-- at most two wires of it.
abbrev pub most_item_weight : ℕ
most_item_weight = 4 * most_variables

-- an item stands for some wire, and for at most so many
abbrev pub HasSmallWeight : Item → Type 0
HasSmallWeight item = (1 ≤ item.weight) × (item.weight ≤ most_item_weight)
