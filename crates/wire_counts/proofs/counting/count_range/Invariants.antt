use Rattle.std.proofs.Common.{length}
use Rattle.tuple_model.specs.Tuples.{IsTuple}
use Rattle.wire_counts.proofs.Passes.{IsAt, CountsFrom}
use Rattle.wire_counts.proofs.counting.count_range.Given as goal

abbrev pub invariant-loop-rank : goal.invariant-loop-rank
invariant-loop-rank l = record {
  here : IsAt (length l.binomials) l.size l._rank l.t;
  tuple : IsTuple (length l.binomials) l.size l.t;
  counted : CountsFrom l.list l.binomials l.size l.fn.range.from l._rank l.numbers;
}
