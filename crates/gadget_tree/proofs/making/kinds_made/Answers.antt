use Rattle.std.proofs.Common.{◌+◌, drop, length, arith}
use Rattle.std.proofs.lemmas.Grind.{common_steps}
use Rattle.gadget_grammar.specs.Seen.{steps_in}
use Rattle.gadget_tree.specs.Made.{operation_count}
use Rattle.gadget_tree.specs.Variables.{names_of, place_of}
use Rattle.gadget_tree.proofs.Operands.{operands-start, operands-next, operands-at}
use Rattle.gadget_tree.proofs.StepsMake.{kinds-room}
use Rattle.gadget_tree.proofs.making.kinds_made.Goals as goal

pub loop-step-init : goal.loop-step-init
loop-step-init c = record {
  makes = grind (arith, common_steps);
  operands = operands-start c.new-making.result c.requires.tree.0 (steps_in c.args.bytes.now c.args.steps.now) c.new-making.ensures c.requires.tree.1;
  room = grind (arith, common_steps);
}

pub loop-step-preserved : goal.loop-step-preserved
loop-step-preserved c =
    let look = place_of (names_of c.args.variables.now) in
    let base = length c.args.variables.now in
    let rest = steps_in c.args.bytes.now (drop (c.loop-step.step-index + 1) c.args.steps.now) in
    record {
      makes = grind (arith, common_steps, c.loop-step.invariant.makes);
      operands = operands-next look base c.loop-step.making c.advance.new.self _ rest c.in_ok-advance.ensures
          (operands-at c.args.bytes.now c.args.steps.now c.loop-step.step-index (length c.loop-step.making.stack.items) _ c.loop-step-test.true c.loop-step.invariant.operands);
      room = kinds-room look base (operation_count (steps_in c.args.bytes.now c.args.steps.now)) c.loop-step.making c.advance.new.self _ rest c.in_ok-advance.ensures (grind (arith, common_steps, c.loop-step.invariant.room));
    }
