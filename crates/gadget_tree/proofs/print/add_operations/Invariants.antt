use Rattle.std.proofs.Common.{◌≡◌, ◌++◌, take}
use Rattle.gadget_tree.specs.Seen.{variables_of}
use Rattle.gadget_tree.specs.Canonical.{printed_lines, operations_among}
use Rattle.gadget_tree.proofs.print.add_operations.Given as goal

abbrev pub invariant-loop-var : goal.invariant-loop-var
invariant-loop-var l = l.text.items ≡ l.fn.text.items ++ printed_lines (operations_among (variables_of l.all) (variables_of (take l.var-index l.all)))
