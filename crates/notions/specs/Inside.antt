-- The fields of a query as a question, and what holds of the items that it keeps.
use Rattle.std.specs.Prelude.{◌≡◌, ℕ, ◌+◌, ◌*◌, ◌<◌, ◌≤◌, List, ◌++◌, length, map, All}
use Rattle.gadget_limits.specs.Limits.{most_shares}
use Rattle.gadget_model.specs.Simulation.{HasShare}
use Rattle.gadget_tree.specs.Gadgets.{IsGadget}
use Rattle.tuple_model.specs.Limits.{most_items, most_size}
use Rattle.wire_table.specs.Tables.{StandsFor}
use Rattle.wire_table.specs.Items.{Item}
use Rattle.wire_table.specs.CodeItems.{item_of, ObservesFew, HasVariablesBelow}
use Rattle.wire_table.specs.declared.item.Item as code
use Rattle.wire_table.specs.declared.item.ItemKind.{ItemKind}
use Rattle.wire_table.specs.declared.item.ItemKind.TheVariants.{Internal, Output}
use Rattle.notions.specs.declared.query.NotionQuery.TheInside.{Inside}
use Rattle.notions.specs.Items.{items_of}
use Rattle.notions.specs.Questions.{NotionQuestion}

abbrev pub notion_asked : Inside → NotionQuestion
notion_asked q = record { notion = q.notion; gadget = q.gadget.now; table = q.table.now; t = q.t }

-- an index is one of the 16 that a share may have
abbrev pub IsSmallKind : ItemKind → Type 0
IsSmallKind Internal = Unit {0}
IsSmallKind (Output index) = index < most_shares

abbrev pub HasSmallIndex : Item → Type 0
HasSmallIndex item = IsSmallKind item.kind

-- a set has the share with an index of some of so many inputs
abbrev pub HasShareIndex : ℕ → ℕ → ℕ → Type 0
HasShareIndex inputs set index = (input : ℕ) × (input < inputs) × HasShare set (16 * input + index)

-- a list got these items more, at its end
abbrev pub GetsItems : List code.Item → List Item → List code.Item → Type 0
GetsItems before more after = map item_of after ≡ map item_of before ++ more

-- The table stands for the gadget, the order is small, and the items are those of the notion. They are few, and each
-- fits what the test works in.
pub record IsPreparedNotion (q : Inside) : Type 0 where
  pub gadget : IsGadget q.gadget.now
  pub table : StandsFor q.table.now q.gadget.now
  pub order : q.t ≤ most_size
  pub items : map item_of q.list.items ≡ items_of q.notion q.gadget.now
  pub few_items : length (items_of q.notion q.gadget.now) ≤ most_items
  pub few_variables : All ObservesFew (items_of q.notion q.gadget.now)
  pub variables : All (HasVariablesBelow (length q.gadget.now.variables)) (items_of q.notion q.gadget.now)
  pub indices : All HasSmallIndex (items_of q.notion q.gadget.now)
