use Rattle.std.proofs.Common.{◌≡◌, drop}
use Rattle.gadget_tree.specs.Variables.{are_distinct}
use Rattle.gadget_tree.proofs.name_list.are_distinct.Given as goal

abbrev pub invariant-loop-i : goal.invariant-loop-i
invariant-loop-i l = are_distinct (drop l.i l.names) ≡ are_distinct l.names
