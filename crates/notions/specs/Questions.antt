-- The question whether sets of probes break a notion, and when one passes.
use Rattle.std.specs.Prelude.{ℕ, ◌<◌, ◌⊎◌, List, length}
use Rattle.gadget_model.specs.Circuit.{Circuit}
use Rattle.gadget_model.specs.Simulation.{IsSimulatable}
use Rattle.wire_table.specs.Tables.{Table}
use Rattle.wire_table.specs.Items.{Item, variables_in}
use Rattle.notions.specs.declared.notion.Notion.{Notion}
use Rattle.notions.specs.Items.{items_of}
use Rattle.notions.specs.Notions.{Fails, Grants}

-- what is asked: a notion of an order, of a gadget, with its table
pub record NotionQuestion : Type 0 where
  pub notion : Notion
  pub gadget : Circuit
  pub table : Table
  pub t : ℕ

-- the items of which it is asked
abbrev pub items_asked : NotionQuestion → List Item
items_asked q = items_of q.notion q.gadget

-- the tuples that fail for a question
abbrev pub FailsFor : NotionQuestion → List ℕ → Type 0
FailsFor q = Fails q.notion q.gadget q.t (items_asked q)

-- A tuple doesn't fail: it has more than t items, or some set that the notion grants simulates its variables.
abbrev pub Passes : Notion → Circuit → ℕ → List Item → List ℕ → Type 0
Passes notion g t items tuple =
    (t < length tuple)
    ⊎ ((set : ℕ) × Grants notion g t items tuple set × IsSimulatable g (variables_in items tuple) set)
