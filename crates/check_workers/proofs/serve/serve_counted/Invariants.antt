use Rattle.std.proofs.Common.{◌≡◌, ◌-◌, []}
use Rattle.claim_store.specs.Seen.{IsPassOf}
use Rattle.claim_store.specs.Rule.{full}
use Rattle.check_workers.proofs.serve.serve_counted.Given as goal

abbrev pub invariant-loop-range : goal.invariant-loop-range
invariant-loop-range g l = record {
  kept : IsPassOf g.Q.Question.items g.Q.Question.size g.Q.Question.Fails l.store l.pass;
  scratch : g.Q.Query.Fits l.query l.scratch;
  parts : l.pass.view.parts ≡ l.fn.pass.view.parts;
  held : l.pass.view.held ≡ [];
}

abbrev pub decreases-loop-range : goal.decreases-loop-range
decreases-loop-range g l = full g.Q.Question.items g.Q.Question.size l.query - l.pass.view.cursor
