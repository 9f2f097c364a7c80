use Rattle.std.proofs.Common.{◌≡◌, ◌++◌, map, take}
use Rattle.wire_table.specs.CodeItems.{item_of}
use Rattle.report.specs.Report.{fail_lines}
use Rattle.report.proofs.builder.add_fail_lines.Given as goal

abbrev pub invariant-loop-place : goal.invariant-loop-place
invariant-loop-place l = l.bytes.items ≡ l.fn.bytes.items ++ fail_lines (map item_of l.items) (take l.place l.list)
