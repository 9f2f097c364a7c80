use Rattle.anf.proofs.Cancelling.{IsSumSoFar}
use Rattle.anf.proofs.reduction.sum_of_sorted.Given as goal

abbrev pub invariant-loop-key : goal.invariant-loop-key
invariant-loop-key l = IsSumSoFar l.sorted l.kept.items l.key-index
