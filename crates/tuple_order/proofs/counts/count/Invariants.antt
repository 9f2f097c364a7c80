use Rattle.std.proofs.Common.{◌≡◌, length}
use Rattle.tuple_model.specs.Tuples.{tuples}
use Rattle.tuple_order.proofs.counts.count.Given as goal

abbrev pub invariant-loop-smaller : goal.invariant-loop-smaller
invariant-loop-smaller l = l.total ≡ length (tuples l.items l.smaller)
