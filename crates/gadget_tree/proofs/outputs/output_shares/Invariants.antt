use Rattle.std.proofs.Common.{◌≡◌, ◌++◌, map, drop}
use Rattle.gadget_text.specs.Places.{text_in}
use Rattle.gadget_tree.specs.File.{output_shares_from, check_shares}
use Rattle.gadget_tree.specs.Variables.{share_names, names_of, place_of}
use Rattle.gadget_tree.proofs.outputs.output_shares.Given as goal

abbrev pub invariant-loop-output : goal.invariant-loop-output
invariant-loop-output l = record {
  numbers : l.numbers.items ++ map (place_of (names_of l.variables)) (share_names l.headers.shares (map (text_in l.bytes) (drop l.output l.headers.outputs.words.now))) ≡ map (place_of (names_of l.variables)) (share_names l.headers.shares (map (text_in l.bytes) l.headers.outputs.words.now));
  missing : check_shares l.variables (output_shares_from l.headers.shares l.output (map (text_in l.bytes) (drop l.output l.headers.outputs.words.now))) ≡ check_shares l.variables (output_shares_from l.headers.shares 0 (map (text_in l.bytes) l.headers.outputs.words.now));
}
