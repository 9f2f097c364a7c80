use Rattle.std.proofs.Common.{ℕ, drop}
use Rattle.cover_core.specs.Core.{Has}
use Rattle.cover_core.proofs.conditions.has_code.Given as goal

abbrev pub invariant-loop-i : goal.invariant-loop-i
invariant-loop-i l = (place : ℕ) → Has (place, l.code) l.seen → Has (place, l.code) (drop l.i l.seen)
