use Rattle.std.proofs.Common.{◌≡◌, ◌<◌, ◌≤◌, ◌++◌, map, take, flat_map, length}
use Rattle.wire_table.specs.CodeItems.{item_of}
use Rattle.tallies.specs.Counting.{cells}
use Rattle.report.specs.Report.{tally_line}
use Rattle.mask_check.proofs.tallying.add_tally.Given as goal

-- The first cells are in the report; once one was asked for, it is known that there are few.
abbrev pub invariant-loop-k : goal.invariant-loop-k
invariant-loop-k g l =
    let tally = goal.Tally-dyn g (l.tally.vtable, l.tally.value) in
    let all = cells (tally.kind l.tally.value) (tally.counts l.tally.value) in
    (l.report ≡ l.fn.report ++ flat_map (tally_line (map item_of l.items)) (take l.k all)) × (0 < l.k → length all ≤ 65536)
