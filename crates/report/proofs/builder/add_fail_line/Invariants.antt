use Rattle.std.proofs.Common.{◌≡◌, ◌++◌, map, take, length}
use Rattle.std.specs.Prelude.{codes, decimal, flat_map}
use Rattle.wire_table.specs.CodeItems.{item_of}
use Rattle.report.specs.Report.{item_name}
use Rattle.report.proofs.builder.add_fail_line.Given as goal

abbrev pub invariant-loop-number : goal.invariant-loop-number
invariant-loop-number l =
    l.bytes.items ≡ l.fn.bytes.items ++ codes "fail " ++ decimal (length l.tuple)
    ++ flat_map (λ i. codes " " ++ item_name (map item_of l.items) i) (take l.number-index l.tuple)
