use Rattle.std.proofs.Common.{◌≡◌, map}
use Rattle.std.specs.Prelude.{nat_lt}
use Rattle.std.specs.List.{filter, range_with_len}
use Rattle.wire_table.specs.Items.{weighted_item}
use Rattle.wire_table.specs.CodeItems.{item_of}
use Rattle.wire_table.specs.Uses.{weight_of}
use Rattle.wire_table.proofs.leaking_wires.wire_items.Given as goal

abbrev pub invariant-loop-var : goal.invariant-loop-var
invariant-loop-var l =
    map item_of l.items.items
    ≡ map (λ v. weighted_item l.gadget (weight_of l.wires l.gadget v) v) (filter (λ v. nat_lt 0 (weight_of l.wires l.gadget v)) (range_with_len 0 l.var))
