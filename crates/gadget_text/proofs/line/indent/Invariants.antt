use Rattle.std.proofs.Common.{◌≡◌, ◌+◌, drop}
use Rattle.std.specs.List.{prefix_len}
use Rattle.gadget_text.specs.Bytes.{is_blank}
use Rattle.gadget_text.proofs.line.indent.Given as goal

abbrev pub invariant-loop-i : goal.invariant-loop-i
invariant-loop-i l = l.i + prefix_len is_blank (drop l.i l.line) ≡ prefix_len is_blank l.line
