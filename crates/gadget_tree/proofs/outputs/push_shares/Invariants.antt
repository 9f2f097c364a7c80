use Rattle.std.proofs.Common.{◌≡◌, ◌++◌, map, Ok}
use Rattle.std.specs.List.{range_with_len}
use Rattle.gadget_tree.specs.File.{output_share, check_shares}
use Rattle.gadget_tree.specs.Variables.{share_name, names_of, place_of}
use Rattle.gadget_tree.proofs.outputs.push_shares.Given as goal

abbrev pub invariant-loop-index : goal.invariant-loop-index
invariant-loop-index l = record {
  numbers : l.numbers.items ≡ l.initial.numbers.items ++ map (place_of (names_of l.variables)) (map (share_name l.stem) (range_with_len 0 l.index));
  all : check_shares l.variables (map (output_share l.output l.stem) (range_with_len 0 l.index)) ≡ Ok tt;
}
