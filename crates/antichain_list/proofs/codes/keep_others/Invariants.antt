use Rattle.antichain_list.specs.Held.{IsNoSuperset}
use Rattle.antichain_list.proofs.InPlace.{PicksInPlace}
use Rattle.antichain_list.proofs.codes.keep_others.Given as goal

abbrev pub invariant-loop-place : goal.invariant-loop-place
invariant-loop-place l = PicksInPlace (IsNoSuperset l.t) l.fn.codes l.codes l.kept l.place
