use Rattle.std.proofs.Common.{ℕ, drop, ◌≢◌}
use Rattle.cover_core.specs.Core.{Has}
use Rattle.cover_core.proofs.conditions.has_other.Given as goal

abbrev pub invariant-loop-i : goal.invariant-loop-i
invariant-loop-i l = (other : ℕ) → Has (l.place, other) l.seen → other ≢ l.code → Has (l.place, other) (drop l.i l.seen)
