use Rattle.std.proofs.Common.{◌≡◌, ◌++◌, drop, map}
use Rattle.gadget_text.specs.Places.{text_in}
use Rattle.gadget_tree.proofs.name_list.extend_names.Given as goal

abbrev pub invariant-loop-word : goal.invariant-loop-word
invariant-loop-word l = l.names.items ++ map (text_in l.bytes) (drop l.word-index l.words) ≡ l.initial.names.items ++ map (text_in l.bytes) l.words
