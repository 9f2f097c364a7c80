use Rattle.std.proofs.Common.{◌≡◌, ◌++◌}
use Rattle.gadget_tree.specs.Seen.{variables_of}
use Rattle.gadget_tree.proofs.start.indexed.Given as goal

abbrev pub invariant-loop-var : goal.invariant-loop-var
invariant-loop-var l = l.variables ++ variables_of l.var-iterator.rest.items ≡ variables_of l.fn.vars.items
