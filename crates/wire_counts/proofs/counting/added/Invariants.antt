use Rattle.std.proofs.Common.{◌≡◌, length}
use Rattle.wire_counts.proofs.Walks.{AreAddedBefore}
use Rattle.wire_counts.proofs.counting.added.Given as goal

abbrev pub invariant-loop-place : goal.invariant-loop-place
invariant-loop-place l = record {
  all : length l.sums ≡ 7;
  sums : AreAddedBefore l.left l.right l.sums l.place;
}
