use Rattle.std.proofs.Common.{◌≡◌, ◌+◌, drop}
use Rattle.std.specs.List.{prefix_len}
use Rattle.gadget_text.specs.Bytes.{is_in_word}
use Rattle.gadget_text.proofs.file.word_len.Given as goal

abbrev pub invariant-loop-i : goal.invariant-loop-i
invariant-loop-i l = l.i + prefix_len (is_in_word l.words) (drop l.i l.bytes) ≡ prefix_len (is_in_word l.words) l.bytes
