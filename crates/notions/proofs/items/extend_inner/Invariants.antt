use Rattle.std.proofs.Common.{◌≡◌, ◌++◌, map}
use Rattle.std.specs.Prelude.{is_none}
use Rattle.std.specs.List.{filter, range_with_len}
use Rattle.wire_table.specs.Items.{output_index}
use Rattle.wire_table.specs.CodeItems.{item_of}
use Rattle.notions.specs.Items.{variable_item}
use Rattle.notions.proofs.items.extend_inner.Given as goal

abbrev pub invariant-loop-var : goal.invariant-loop-var
invariant-loop-var l = map item_of l.items.items ≡ map item_of l.fn.items.items ++ map (variable_item l.gadget) (filter (λ v. is_none (output_index l.gadget v)) (range_with_len 0 l.var))
