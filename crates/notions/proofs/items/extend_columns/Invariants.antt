use Rattle.std.proofs.Common.{◌≡◌, ◌++◌, map}
use Rattle.std.specs.List.{range_with_len}
use Rattle.wire_table.specs.CodeItems.{item_of}
use Rattle.notions.specs.Items.{column_item}
use Rattle.notions.proofs.items.extend_columns.Given as goal

abbrev pub invariant-loop-index : goal.invariant-loop-index
invariant-loop-index l = map item_of l.items.items ≡ map item_of l.fn.items.items ++ map (column_item l.gadget) (range_with_len 0 l.index)
