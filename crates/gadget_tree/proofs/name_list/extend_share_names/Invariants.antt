use Rattle.std.proofs.Common.{◌≡◌, ◌++◌, drop, map}
use Rattle.gadget_text.specs.Places.{text_in}
use Rattle.gadget_tree.specs.Variables.{share_names}
use Rattle.gadget_tree.proofs.name_list.extend_share_names.Given as goal

abbrev pub invariant-loop-stem : goal.invariant-loop-stem
invariant-loop-stem l = l.names.items ++ share_names l.shares (map (text_in l.bytes) (drop l.stem-index l.stems)) ≡ l.initial.names.items ++ share_names l.shares (map (text_in l.bytes) l.stems)
