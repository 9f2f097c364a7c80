use Rattle.std.proofs.Common.{ℕ, ◌<◌, ◌≤◌, length}
use Rattle.tuple_model.specs.Tuples.{tuples}
use Rattle.tuple_order.proofs.ranks.size_at.Given as goal

abbrev pub invariant-loop-smaller : goal.invariant-loop-smaller
invariant-loop-smaller l = (least : ℕ) → least < l.smaller → length (tuples l.items least) ≤ l.rank
