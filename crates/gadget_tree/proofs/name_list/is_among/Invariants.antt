use Rattle.std.proofs.Common.{◌≡◌, drop}
use Rattle.gadget_tree.specs.Variables.{is_among}
use Rattle.gadget_tree.proofs.name_list.is_among.Given as goal

abbrev pub invariant-loop-name : goal.invariant-loop-name
invariant-loop-name l = is_among (drop l.name-index l.names) l.word ≡ is_among l.names l.word
