use Rattle.std.proofs.Common.{refl}
use Rattle.store_examples.proofs.runs.run.Goals as goal

pub replay-requires-clause-power : goal.replay-requires-clause-power
replay-requires-clause-power c κs = (2, refl)
