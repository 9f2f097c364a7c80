use Rattle.std.proofs.Common.{◌≡◌, ◌+◌, ◌≤◌, ◌++◌, length, map}
use Rattle.gadget_text.specs.Lines.{pieces_of, lines_of, without_return, first_not_text}
use Rattle.gadget_text.specs.Places.{placed_lines, tokens_of}
use Rattle.gadget_text.proofs.file.tokens.Given as goal

abbrev pub invariant-lines : goal.invariant-lines
invariant-lines l = record {
  tokens : l.tokens.items ++ placed_lines l.number l.at (pieces_of l.rest) ≡ tokens_of l.bytes;
  text : first_not_text l.number (map without_return (pieces_of l.rest)) ≡ first_not_text 1 (lines_of l.bytes);
  number : l.number ≤ l.at + 1;
  room : l.at + length l.rest ≤ length l.bytes;
}

abbrev pub decreases-lines : goal.decreases-lines
decreases-lines l = length l.rest
