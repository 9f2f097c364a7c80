use Rattle.std.proofs.Common.{◌+◌, ◌≤◌, ℕ, List, length, sym, ◌∙◌, subst}
use Rattle.gadget_text.specs.Lines.{header_word}
use Rattle.gadget_text.proofs.Blanks.{blanks}
use Rattle.gadget_text.proofs.Headers.{header_room}
use Rattle.gadget_text.proofs.file.add_text.Goals as goal

pub add_header-requires-clause-room : goal.add_header-requires-clause-room
add_header-requires-clause-room c =
    subst (λ (z : List ℕ). blanks z + 1 + length (header_word c.in-HeaderLine.header) ≤ length z) (sym c.kept_part-kept.ensures.kept)
    (header_room c.in-HeaderLine.header c.args.line.now (sym c.line_kind.ensures ∙ c.in-HeaderLine.is))
