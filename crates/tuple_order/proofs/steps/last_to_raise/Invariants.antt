use Rattle.std.proofs.Common.{ℕ, ◌≤◌}
use Rattle.tuple_order.specs.Steps.{CanRaise}
use Rattle.tuple_order.proofs.steps.last_to_raise.Given as goal

abbrev pub invariant-loop-place : goal.invariant-loop-place
invariant-loop-place l = (later : ℕ) → l.place ≤ later → CanRaise l.high l.items later → ⊥
