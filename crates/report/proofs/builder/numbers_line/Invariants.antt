use Rattle.std.proofs.Common.{◌≡◌, ◌++◌, take}
use Rattle.report.specs.Report.{spaced}
use Rattle.report.proofs.builder.numbers_line.Given as goal

abbrev pub invariant-loop-number : goal.invariant-loop-number
invariant-loop-number l = l.line.items ≡ l.words ++ spaced (take l.number-index l.list)
