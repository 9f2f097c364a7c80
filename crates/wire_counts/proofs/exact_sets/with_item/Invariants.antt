use Rattle.wire_counts.proofs.Walks.{IsTakenIn, IsAsBefore}
use Rattle.wire_counts.proofs.exact_sets.with_item.Given as goal

abbrev pub invariant-loop-more : goal.invariant-loop-more
invariant-loop-more l = record {
  lower : IsAsBefore l.binomials l.room l.initial.sets l.sets l.more;
  higher : IsTakenIn l.binomials l.room l.initial.sets l.sets l.more;
}
