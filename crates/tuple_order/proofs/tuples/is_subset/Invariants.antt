use Rattle.tuple_order.proofs.Merging.{Left}
use Rattle.tuple_order.proofs.tuples.is_subset.Given as goal

abbrev pub invariant-loop-item : goal.invariant-loop-item
invariant-loop-item l = Left l.wanted l.item-items l.found l.item-index
