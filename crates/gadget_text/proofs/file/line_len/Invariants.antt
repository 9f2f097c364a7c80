use Rattle.std.proofs.Common.{◌≡◌, ◌+◌, drop}
use Rattle.std.specs.List.{position_or_len}
use Rattle.gadget_text.specs.Bytes.{is_feed}
use Rattle.gadget_text.proofs.file.line_len.Given as goal

abbrev pub invariant-loop-i : goal.invariant-loop-i
invariant-loop-i l = l.i + position_or_len is_feed (drop l.i l.bytes) ≡ position_or_len is_feed l.bytes
