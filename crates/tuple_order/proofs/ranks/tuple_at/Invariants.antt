use Rattle.tuple_order.proofs.Ranking.{Leads}
use Rattle.tuple_order.proofs.ranks.tuple_at.Given as goal

abbrev pub invariant-loop-item : goal.invariant-loop-item
invariant-loop-item l = Leads l.items l.size l.place l.t l.lacking l.rest l.item
