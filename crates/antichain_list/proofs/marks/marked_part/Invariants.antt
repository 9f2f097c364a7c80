use Rattle.std.proofs.Common.{drop}
use Rattle.antichain_list.proofs.Marking.{NumbersMarked}
use Rattle.antichain_list.proofs.marks.marked_part.Given as goal

abbrev pub invariant-loop-place : goal.invariant-loop-place
invariant-loop-place l = NumbersMarked l.marks (drop l.place l.items) l.number
