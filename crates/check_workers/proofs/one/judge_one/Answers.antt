use Rattle.claim_store.specs.Rule.{asked}
use Rattle.check_workers.proofs.Steps.{worked_after, came_after}
use Rattle.check_workers.proofs.one.judge_one.Goals as goal

pub returns-clause-worked : goal.returns-clause-worked
returns-clause-worked g c = worked_after _ _ _ _ _ c.look.ensures.further c.store_failing.ensures.worked

pub returns-clause-came : goal.returns-clause-came
returns-clause-came g c =
    let q = g.Q.Question in
    came_after (asked q.items q.size q.Fails c.args.store.now.facts) c.args.store.now.facts.width c.args.t.now c.args.pass.now.view c.look.new.pass.view c.store_failing.new.pass.view c.store_failing.result c.look.ensures.further c.store_failing.ensures.came
