-- What the operands of an operation are, and where the loop ends.
use Rattle.gadget_tree.proofs.Printing.{operands_below, operations_done}
use Rattle.gadget_tree.proofs.print.add_operations.Goals as goal

pub add_operation-requires : goal.add_operation-requires
add_operation-requires c =
    operands_below c.args.gadget.now c.vars-all.result.now c.loop-var.var-index c.var-item.result c.vars-all.ensures.variables c.vars-all.ensures.gadget.in_order c.loop-var-test.true c.var-item.is

pub returns : goal.returns
returns c =
    operations_done c.vars-all.result.now c.args.gadget.now.variables c.loop-var.var-index c.loop-var.text.items c.args.text.now.items c.vars-all.ensures.variables c.loop-var-test.false
    c.loop-var.invariant
