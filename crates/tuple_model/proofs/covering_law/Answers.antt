use Rattle.tuple_model.proofs.Antichains.{answer-from_antichain}
use Rattle.tuple_model.proofs.covering_law.Goals as goal

pub returns : goal.returns
returns g c = answer-from_antichain g.F.Failing.Fails
