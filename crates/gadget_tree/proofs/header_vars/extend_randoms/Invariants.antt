use Rattle.std.proofs.Common.{◌≡◌, ◌++◌, drop, map}
use Rattle.gadget_text.specs.Places.{text_in}
use Rattle.gadget_tree.specs.Seen.{variables_of}
use Rattle.gadget_tree.specs.Variables.{random_variables}
use Rattle.gadget_tree.proofs.header_vars.extend_randoms.Given as goal

abbrev pub invariant-loop-place : goal.invariant-loop-place
invariant-loop-place l = variables_of l.vars.items ++ random_variables l.line l.place (map (text_in l.bytes) (drop l.place l.randoms)) ≡ variables_of l.initial.vars.items ++ random_variables l.line 0 (map (text_in l.bytes) l.randoms)
