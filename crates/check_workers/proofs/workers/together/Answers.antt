use Rattle.std.proofs.Common.{Bool, sym, subst}
use Rattle.claim_store.specs.Rule.{asked}
use Rattle.check_workers.specs.Works.{Served}
use Rattle.check_workers.proofs.Joining.{served_joined, served_full}
use Rattle.check_workers.proofs.workers.together.Goals as goal
use Rattle.check_workers.proofs.workers.together.Goals.{then-one_full, else-one_full}

pub returns-clause-served : goal.returns-clause-served
returns-clause-served g c =
    let q = g.Q.Question in
    let facts = c.args.store.now.facts in
    let a = asked q.items q.size q.Fails facts in
    let n = facts.width in
    let v = c.args.one.0.view in
    let w = c.join.new.pass.view in
    let e = c.join.ensures.view in
    elim c.if-one_full.branch [
      | then-one_full b ↦ subst (λ (r : Bool). Served a n r w) (sym b.result-is) (served_full a n c.args.one.1 v w b.if-one_full.true c.requires.one_served)
      | else-one_full b ↦ subst (λ (r : Bool). Served a n r w) (sym b.result-is) (served_joined a n e.0 c.args.other.1 v c.args.other.0.view w (subst (λ (r : Bool). Served a n r v) b.if-one_full.false c.requires.one_served) c.requires.other_served e.1 e.2 e.3)
    ]
