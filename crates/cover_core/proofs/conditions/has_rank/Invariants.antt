use Rattle.std.proofs.Common.{ℕ, drop, map, ◌≤◌, ◌<◌}
use Rattle.cover_core.specs.Core.{Has}
use Rattle.cover_core.proofs.conditions.has_rank.Given as goal

abbrev pub invariant-loop-i : goal.invariant-loop-i
invariant-loop-i g l = (range : ℕ × ℕ) → Has range (map g.P.Pair.pair l.ranges) → range.0 ≤ l.rank → l.rank < range.1 → Has range (drop l.i (map g.P.Pair.pair l.ranges))
