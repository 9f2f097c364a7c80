use Rattle.std.proofs.Common.{drop}
use Rattle.wire_counts.proofs.Walks.{AreSets}
use Rattle.wire_counts.proofs.exact_sets.exact_sets.Given as goal

abbrev pub invariant-loop-place : goal.invariant-loop-place
invariant-loop-place l = AreSets l.binomials (drop l.place l.t) l.room l.sets
