use Rattle.std.proofs.Common.{◌≡◌, ◌++◌, drop}
use Rattle.tuple_model.specs.Tuples.{subset as subset_of}
use Rattle.tuple_order.proofs.tuples.subset.Given as goal

abbrev pub invariant-loop-item : goal.invariant-loop-item
invariant-loop-item l = l.kept ++ subset_of l.bits (drop l.item-index l.item-items) ≡ subset_of l.k l.t
