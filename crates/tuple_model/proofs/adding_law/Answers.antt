use Rattle.tuple_model.proofs.Antichains.{IsAntichain-added, Covers-added}
use Rattle.tuple_model.proofs.adding_law.Goals as goal

pub returns-clause-antichain : goal.returns-clause-antichain
returns-clause-antichain c = λ before after t. IsAntichain-added before t after

pub returns-clause-covers : goal.returns-clause-covers
returns-clause-covers c = λ before after t. Covers-added before t after
