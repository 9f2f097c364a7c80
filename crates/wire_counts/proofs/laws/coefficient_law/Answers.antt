use Rattle.wire_counts.proofs.Agreeing.{coefficients-same, coefficients-unique}
use Rattle.wire_counts.proofs.laws.coefficient_law.Goals as goal

pub returns-clause-once : goal.returns-clause-once
returns-clause-once g c = coefficients-unique g.F.Failing.Fails

pub returns-clause-same : goal.returns-clause-same
returns-clause-same g c = coefficients-same g.F.Failing.Fails
