use Rattle.std.proofs.Common.{◌≡◌, drop}
use Rattle.std.specs.List.{list_any}
use Rattle.gadget_tree.specs.Made.{inner_names}
use Rattle.gadget_tree.specs.Seen.{variables_of}
use Rattle.gadget_tree.specs.Variables.{names_of, is_among}
use Rattle.gadget_tree.proofs.inner_names.has_inner_name.Given as goal

abbrev pub invariant-loop-var : goal.invariant-loop-var
invariant-loop-var l =
    list_any (is_among (inner_names l.name l.count)) (names_of (variables_of (drop l.var-index l.vars))) ≡ list_any (is_among (inner_names l.name l.count)) (names_of (variables_of l.vars))
