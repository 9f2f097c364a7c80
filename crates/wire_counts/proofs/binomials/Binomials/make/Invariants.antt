use Rattle.std.proofs.Common.{◌≡◌, length}
use Rattle.tuple_order.proofs.Counting.{ways}
use Rattle.wire_counts.proofs.Choosing.{AreWays}
use Rattle.wire_counts.proofs.binomials.Binomials.make.Given as goal

abbrev pub invariant-loop-place : goal.invariant-loop-place
invariant-loop-place l = record {
  six : length l.numbers ≡ 6;
  last : l.of_size ≡ ways l.place l.weight;
  known : AreWays l.numbers l.place l.weight;
}
