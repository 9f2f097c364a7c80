use Rattle.std.proofs.Common.{◌≡◌, ◌++◌, map}
use Rattle.std.specs.List.{range_with_len}
use Rattle.wire_table.specs.CodeItems.{item_of}
use Rattle.notions.specs.Items.{variable_item}
use Rattle.notions.proofs.items.extend_variables.Given as goal

abbrev pub invariant-loop-var : goal.invariant-loop-var
invariant-loop-var l = map item_of l.items.items ≡ map item_of l.fn.items.items ++ map (variable_item l.gadget) (range_with_len 0 l.var)
