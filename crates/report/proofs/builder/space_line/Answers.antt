-- The format joins its pieces from the right.
use Rattle.std.proofs.Common.{append_assoc}
use Rattle.report.specs.Report.{space_line}
use Rattle.report.proofs.builder.space_line.Goals as goal

pub returns : goal.returns
unfolding space_line
returns c = simp append_assoc c.in_ok-format.ensures.ok
