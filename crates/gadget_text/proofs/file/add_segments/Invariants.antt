use Rattle.std.proofs.Common.{◌≡◌, ◌+◌, ◌≤◌, ◌++◌, length}
use Rattle.gadget_text.specs.Segments.{segments}
use Rattle.gadget_text.specs.Places.{placed}
use Rattle.gadget_text.proofs.file.add_segments.Given as goal

abbrev pub invariant-loop-rest : goal.invariant-loop-rest
invariant-loop-rest l = record {
  tokens : l.tokens.items ++ placed l.line l.at (segments l.words l.rest) ≡ l.initial.tokens.items ++ placed l.line l.from (segments l.words l.bytes);
  fits : l.at + length l.rest ≤ l.from + length l.bytes;
}

abbrev pub decreases-loop-rest : goal.decreases-loop-rest
decreases-loop-rest l = length l.rest
