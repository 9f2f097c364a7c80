use Rattle.tuple_order.proofs.Doubling.{Known}
use Rattle.tuple_order.proofs.tuples.Tuple.subset_codes.Given as goal

abbrev pub invariant-loop-item : goal.invariant-loop-item
invariant-loop-item l = Known l.item-items l.codes l.item-index l.known
