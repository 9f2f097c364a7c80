use Rattle.tuple_order.proofs.Ranking.{Comes}
use Rattle.tuple_order.proofs.ranks.place_of.Given as goal

abbrev pub invariant-loop-item : goal.invariant-loop-item
invariant-loop-item l = Comes l.items l.t l.passed l.before l.item
