use Rattle.std.proofs.Common.{◌≡◌, ℕ, rules}
use Rattle.cover_core.proofs.Having.{code-found, code-later, has-past}
use Rattle.cover_core.proofs.conditions.has_code.Goals as goal

pub returns-then-seen-i : goal.returns-then-seen-i
returns-then-seen-i c = (λ _. code-found c.args.seen.now c.loop-i.i c.args.code c.loop-i-test.true c.if-seen-i.true, λ _. search rules)

pub loop-i-preserved : goal.loop-i-preserved
loop-i-preserved c = λ p h. code-later c.args.seen.now c.loop-i.i c.args.code p c.loop-i-test.true c.if-seen-i.false (c.loop-i.invariant p h)

pub returns : goal.returns
returns c = (λ h. absurd (search rules), λ h. absurd (has-past (h.0, c.args.code) c.args.seen.now c.loop-i.i c.loop-i-test.false (c.loop-i.invariant h.0 h.1)))
