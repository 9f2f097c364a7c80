use Rattle.tuple_model.proofs.Ranks.{IsTuple-from_rank}
use Rattle.tuple_order.proofs.Ranking.{rank-from_size}
use Rattle.tuple_order.proofs.ranks.unrank.Goals as goal

pub returns-clause-rank : goal.returns-clause-rank
returns-clause-rank c =
    rank-from_size c.args.items c.args.size c.args.rank c.size_at-of_size.result c.count_of_fewer.result c.tuple_at.result c.size_at-of_size.ensures.at_most c.size_at-of_size.ensures.least c.count_of_fewer.ensures c.tuple_at.ensures

pub returns-clause-tuple : goal.returns-clause-tuple
returns-clause-tuple c =
    IsTuple-from_rank c.args.items c.args.size c.args.rank c.tuple_at.result
    (rank-from_size c.args.items c.args.size c.args.rank c.size_at-of_size.result c.count_of_fewer.result c.tuple_at.result c.size_at-of_size.ensures.at_most c.size_at-of_size.ensures.least c.count_of_fewer.ensures c.tuple_at.ensures)
