use Rattle.std.proofs.Common.{◌≡◌, ◌++◌, map}
use Rattle.std.specs.List.{range_with_len}
use Rattle.gadget_tree.specs.Variables.{share_name}
use Rattle.gadget_tree.proofs.name_list.push_share_names.Given as goal

abbrev pub invariant-loop-index : goal.invariant-loop-index
invariant-loop-index l = l.names.items ≡ l.initial.names.items ++ map (share_name l.stem) (range_with_len 0 l.index)
