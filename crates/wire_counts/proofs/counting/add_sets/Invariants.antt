use Rattle.wire_counts.proofs.Walks.{AddsBefore}
use Rattle.wire_counts.proofs.counting.add_sets.Given as goal

abbrev pub invariant-loop-place : goal.invariant-loop-place
invariant-loop-place l = AddsBefore l.binomials l.t l.initial.numbers l.numbers l.place
