use Rattle.tuple_model.proofs.Antichains.{antichain-same}
use Rattle.tuple_model.proofs.antichain_law.Goals as goal

pub returns : goal.returns
returns c = antichain-same
