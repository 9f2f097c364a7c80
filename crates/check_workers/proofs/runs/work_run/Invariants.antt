use Rattle.std.proofs.Common.{◌≡◌, ◌≤◌}
use Rattle.tuple_model.specs.Tuples.{IsTuple}
use Rattle.claim_store.specs.Seen.{IsPassOf}
use Rattle.claim_store.specs.Rule.{asked}
use Rattle.check_workers.specs.Works.{Done, IsAtRank}
use Rattle.check_workers.proofs.runs.work_run.Given as goal

abbrev pub invariant-loop-rank : goal.invariant-loop-rank
invariant-loop-rank g l =
    let q = g.Q.Question in
    record {
      here : IsAtRank (q.items l.query) (q.size l.query) l._rank l.t;
      tuple : IsTuple (q.items l.query) (q.size l.query) l.t;
      kept : IsPassOf g.Q.Question.items g.Q.Question.size g.Q.Question.Fails l.store l.pass;
      scratch : g.Q.Query.Fits l.query l.scratch;
      parts : l.pass.view.parts ≡ l.fn.pass.view.parts;
      held : l.pass.view.held ≡ l.fn.pass.view.held;
      cursor : l.fn.pass.view.cursor ≤ l.pass.view.cursor;
      done : Done (asked q.items q.size q.Fails l.store.facts) l.fn.range.from l._rank l.pass.view;
    }
