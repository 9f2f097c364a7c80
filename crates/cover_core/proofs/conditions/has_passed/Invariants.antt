use Rattle.cover_core.specs.Effects.{PassedBy}
use Rattle.cover_core.proofs.conditions.has_passed.Given as goal

abbrev pub invariant-loop-step : goal.invariant-loop-step
invariant-loop-step l = PassedBy l.width l.code l.step l.view
