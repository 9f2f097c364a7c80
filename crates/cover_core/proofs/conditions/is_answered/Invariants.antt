use Rattle.cover_core.specs.Core.{question_of}
use Rattle.cover_core.specs.Effects.{Answered}
use Rattle.cover_core.proofs.conditions.is_answered.Given as goal

abbrev pub invariant-loop-rank : goal.invariant-loop-rank
invariant-loop-rank g l =
    let q = g.Q.Question in
    record {
      scratch : g.Q.Query.Fits l.query l.scratch;
      answered : Answered (question_of (q.items l.query) (q.size l.query) (q.Fails l.query)) (l.fn.range.0, l.rank) l.view;
    }
