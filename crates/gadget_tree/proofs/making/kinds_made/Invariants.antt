use Rattle.std.proofs.Common.{◌≡◌, ◌≤◌, ◌+◌, drop, length}
use Rattle.gadget_grammar.specs.Seen.{steps_in}
use Rattle.gadget_tree.specs.Made.{operation_count, after_steps, start, making_of}
use Rattle.gadget_tree.specs.Variables.{names_of, place_of}
use Rattle.gadget_tree.proofs.Operands.{FindOperands}
use Rattle.gadget_tree.proofs.making.kinds_made.Given as goal

abbrev pub invariant-loop-step : goal.invariant-loop-step
invariant-loop-step l = record {
  makes : after_steps (place_of (names_of l.variables)) (length l.variables) (making_of l.making) (steps_in l.bytes (drop l.step-index l.steps))
      ≡ after_steps (place_of (names_of l.variables)) (length l.variables) start (steps_in l.bytes l.steps);
  operands : FindOperands (length l.making.stack.items) (steps_in l.bytes (drop l.step-index l.steps));
  room : length l.making.kinds.items + operation_count (steps_in l.bytes (drop l.step-index l.steps)) ≤ operation_count (steps_in l.bytes l.steps);
}
