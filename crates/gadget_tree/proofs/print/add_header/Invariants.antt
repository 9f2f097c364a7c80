use Rattle.std.proofs.Common.{◌≡◌, ◌++◌, take}
use Rattle.gadget_tree.specs.Seen.{printed_words}
use Rattle.gadget_tree.proofs.print.add_header.Given as goal

abbrev pub invariant-loop-name : goal.invariant-loop-name
invariant-loop-name l = l.text.items ≡ l.fn.text.items ++ l.header ++ printed_words (take l.name-index l.names)
