use Rattle.tuple_model.proofs.Ranks.{rank-unique, ranks-from_IsBefore, IsBefore-from_ranks, short-from_low_rank}
use Rattle.tuple_model.proofs.rank_law.Goals as goal

pub returns-clause-once : goal.returns-clause-once
returns-clause-once c = rank-unique

pub returns-clause-ordered : goal.returns-clause-ordered
returns-clause-ordered c = λ items size i j s t e f. (ranks-from_IsBefore items size i j s t e f, IsBefore-from_ranks items size i j s t e f)

pub returns-clause-short : goal.returns-clause-short
returns-clause-short c = short-from_low_rank
