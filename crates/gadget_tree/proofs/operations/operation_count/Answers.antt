use Rattle.std.proofs.Common.{arith}
use Rattle.std.proofs.lemmas.Grind.{common_steps}
use Rattle.gadget_tree.proofs.operations.operation_count.Goals as goal
use Rattle.gadget_tree.proofs.operations.operation_count.Goals.{in-Name, in-Sum}

pub loop-step-preserved : goal.loop-step-preserved
loop-step-preserved c = record {
  few = elim c.match-step.branch [ in-Name w ↦ omega arith | in-Sum w ↦ omega arith ];
  counts = λ bytes. elim c.match-step.branch [ in-Name w ↦ grind (arith, common_steps, c.loop-step.invariant.counts bytes) | in-Sum w ↦ grind (arith, common_steps, c.loop-step.invariant.counts bytes) ];
}

pub returns : goal.returns
returns c = λ bytes. grind (arith, common_steps, c.loop-step.invariant.counts bytes)
