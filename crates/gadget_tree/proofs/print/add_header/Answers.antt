-- The words after the header are joined by spaces.
use Rattle.gadget_tree.proofs.Printing.{header_done}
use Rattle.gadget_tree.proofs.print.add_header.Goals as goal

pub returns : goal.returns
returns c =
    header_done c.args.header.now c.args.names.now c.loop-name.name-index c.args.text.now.items c.loop-name.text.items c.push.new.self.items c.loop-name-test.false c.loop-name.invariant
    c.in_ok-push.ensures.items
