use Rattle.std.proofs.Common.{◌≡◌, ℕ, rules, ap, sym, ◌∙◌}
use Rattle.cover_core.proofs.Having.{other-found, has-onward, has-past}
use Rattle.cover_core.proofs.conditions.has_other.Goals as goal
use Rattle.cover_core.proofs.conditions.has_other.Goals.{else-seen-i-via-then-seen-i+else-seen-i-2, else-seen-i-via-else-seen-i}

pub returns-then-seen-i-2 : goal.returns-then-seen-i-2
returns-then-seen-i-2 c = (λ _. other-found c.args.seen.now c.loop-i.i c.args.place c.args.code c.loop-i-test.true c.if-seen-i.true c.if-seen-i-2.true, λ _. search rules)

pub loop-i-preserved : goal.loop-i-preserved
loop-i-preserved c = λ other h apart. has-onward (c.args.place, other) c.args.seen.now c.loop-i.i (0, 0) c.loop-i-test.true
    (λ q. elim c.else-seen-i.branch [
      | else-seen-i-via-then-seen-i+else-seen-i-2 w ↦ apart (sym (ap (λ (z : ℕ × ℕ). z.1) q) ∙ w.if-seen-i-2.false)
      | else-seen-i-via-else-seen-i w ↦ w.if-seen-i.false (ap (λ (z : ℕ × ℕ). z.0) q)
    ])
    (c.loop-i.invariant other h apart)

pub returns : goal.returns
returns c = (λ h. absurd (search rules), λ h. absurd (has-past (c.args.place, h.0) c.args.seen.now c.loop-i.i c.loop-i-test.false (c.loop-i.invariant h.0 h.1 h.2)))
