use Rattle.std.proofs.Common.{◌≡◌, ◌+◌, ◌*◌, map, slice_index_or}
use Rattle.std.specs.List.{range_with_len}
use Rattle.notions.proofs.items.column_item.Given as goal

abbrev pub invariant-loop-output : goal.invariant-loop-output
invariant-loop-output l =
    l.vars.items ≡ map (λ output. slice_index_or l.gadget.output_shares (l.gadget.shares * output + l.index) 0) (range_with_len 0 l.output)
