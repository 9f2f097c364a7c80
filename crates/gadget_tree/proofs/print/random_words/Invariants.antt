use Rattle.std.proofs.Common.{◌≡◌, take}
use Rattle.gadget_tree.specs.Seen.{variables_of}
use Rattle.gadget_tree.specs.Canonical.{randoms_among}
use Rattle.gadget_tree.specs.Seen.{printed_words}
use Rattle.gadget_tree.proofs.print.random_words.Given as goal

abbrev pub invariant-loop-var : goal.invariant-loop-var
invariant-loop-var l = l.text.items ≡ printed_words (randoms_among (variables_of (take l.var-index l.vars)))
