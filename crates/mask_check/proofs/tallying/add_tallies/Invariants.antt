use Rattle.std.proofs.Common.{◌≡◌, ◌++◌, map, take, flat_map}
use Rattle.wire_table.specs.CodeItems.{item_of}
use Rattle.mask_check.specs.Tallying.{tally_lines, state_of}
use Rattle.mask_check.proofs.tallying.add_tallies.Given as goal

abbrev pub invariant-loop-tally : goal.invariant-loop-tally
invariant-loop-tally g l =
    let tally = goal.Tally-dyn g in
    l.report ≡ l.fn.report ++ flat_map (tally_lines (map item_of l.items))
    (map (λ b. state_of ((tally (b.vtable, b.value)).kind b.value) ((tally (b.vtable, b.value)).counts b.value)) (take l.tally-index l.tallies))
