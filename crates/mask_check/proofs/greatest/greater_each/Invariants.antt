use Rattle.std.proofs.Common.{◌≡◌, ◌++◌}
use Rattle.std.specs.Slice.Iter.{iter_rest}
use Rattle.std.specs.Iterator.Adapters.{zip_first, zip_second}
use Rattle.mask_check.specs.Report.{greater_each}
use Rattle.mask_check.proofs.greatest.greater_each.Given as goal

abbrev pub invariant-loop-left : goal.invariant-loop-left
invariant-loop-left l =
    l.greater.items ++ greater_each (iter_rest (zip_first l.left-iterator)) (iter_rest (zip_second l.left-iterator)) ≡ greater_each l.a l.b
