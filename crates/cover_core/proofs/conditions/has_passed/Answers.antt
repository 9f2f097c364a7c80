use Rattle.std.proofs.Common.{◌≡◌, ◌≢◌, ◌<◌, ◌+◌, ℕ, ap, sym, ◌∙◌, arith, subst, refl, rules, below_more}
use Rattle.cover_core.specs.Core.{Has, path}
use Rattle.cover_core.proofs.Storing.{passed-one, passed-back}
use Rattle.cover_core.proofs.conditions.has_passed.Goals as goal

pub returns-then-not-has_other : goal.returns-then-not-has_other
returns-then-not-has_other c = (
  λ h. absurd (search rules),
  λ passed.
      c.if-not-has_other.ensures.1 (passed-back c.args.width c.args.code c.loop-step.step c.args.view.now c.as_slice.result.now c.place_at.result c.as_slice.ensures c.place_at.ensures.place (passed c.loop-step.step c.loop-step-test.true)),
)

pub loop-step-preserved : goal.loop-step-preserved
loop-step-preserved c = below_more _ _ c.loop-step.invariant (passed-one c.args.width c.args.code c.loop-step.step c.args.view.now c.as_slice.result.now c.place_at.result c.as_slice.ensures c.place_at.ensures.place (c.if-not-has_other.ensures.0 refl))
