use Rattle.std.proofs.Common.{◌≡◌, take, suc, vec_len}
use Rattle.cover_core.specs.Core.{CoreOk, question_of}
use Rattle.cover_core.specs.Machine.{IsRun, opening}
use Rattle.cover_core.specs.Machines.{FewMoves, state_of}
use Rattle.cover_core.proofs.replaying.replay_counted.Given as goal

abbrev pub invariant-loop-index : goal.invariant-loop-index
invariant-loop-index g l =
    let q = g.Q.Question in
    let a = question_of (q.items l.query) (q.size l.query) (q.Fails l.query) in
    record {
      scratch : g.Q.Query.Fits l.query l.scratch;
      run : IsRun a (take l.index l.kinds) (opening l.words) (state_of l.machine);
      ok : CoreOk a (state_of l.machine);
      moves : FewMoves (suc l.index) (state_of l.machine);
      width : vec_len l.machine.words ≡ l.words;
    }
