use Rattle.std.proofs.Common.{◌≡◌, ◌++◌, drop, map}
use Rattle.gadget_text.specs.Places.{text_in}
use Rattle.gadget_tree.specs.Seen.{variables_of}
use Rattle.gadget_tree.specs.Variables.{share_variables}
use Rattle.gadget_tree.proofs.header_vars.share_vars.Given as goal

abbrev pub invariant-loop-input : goal.invariant-loop-input
invariant-loop-input l = variables_of l.vars.items ++ share_variables l.inputs.line l.shares l.input (map (text_in l.bytes) (drop l.input l.inputs.words.now)) ≡ share_variables l.inputs.line l.shares 0 (map (text_in l.bytes) l.inputs.words.now)
