use Rattle.std.proofs.Common.{◌≡◌, drop}
use Rattle.std.specs.List.{list_all}
use Rattle.gadget_grammar.specs.Seen.{steps_in}
use Rattle.gadget_tree.specs.Made.{is_known}
use Rattle.gadget_tree.specs.Variables.{names_of}
use Rattle.gadget_tree.proofs.operations.are_known.Given as goal

abbrev pub invariant-loop-step : goal.invariant-loop-step
invariant-loop-step l =
    list_all (is_known (names_of l.variables)) (steps_in l.bytes (drop l.step-index l.steps)) ≡ list_all (is_known (names_of l.variables)) (steps_in l.bytes l.steps)
