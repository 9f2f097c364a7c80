use Rattle.std.proofs.Common.{◌≡◌, ◌≤◌, ◌+◌, ℕ, List, drop}
use Rattle.gadget_grammar.specs.Seen.{steps_in}
use Rattle.gadget_tree.specs.Made.{operation_count}
use Rattle.gadget_tree.proofs.operations.operation_count.Given as goal

abbrev pub invariant-loop-step : goal.invariant-loop-step
invariant-loop-step l = record {
  few : l.count ≤ l.step-index;
  counts : (bytes : List ℕ) → l.count + operation_count (steps_in bytes (drop l.step-index l.steps)) ≡ operation_count (steps_in bytes l.steps);
}
