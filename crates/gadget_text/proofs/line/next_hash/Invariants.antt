use Rattle.std.proofs.Common.{◌≡◌, ◌+◌, ◌≤◌, drop, length}
use Rattle.std.specs.List.{position_or_len}
use Rattle.gadget_text.specs.Bytes.{is_hash}
use Rattle.gadget_text.proofs.line.next_hash.Given as goal

abbrev pub invariant-loop-i : goal.invariant-loop-i
invariant-loop-i l = record {
  next : l.i + position_or_len is_hash (drop l.i l.line) ≡ l.from + position_or_len is_hash (drop l.from l.line);
  within : l.i ≤ length l.line;
}
