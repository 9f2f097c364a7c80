-- A file says at most one thing.
use Rattle.std.proofs.Common.{◌≡◌, ℕ, List, [], ◌∷◌, Option, Some, None, Result, sym, ap, ◌∙◌, subst}
use Rattle.gadget_model.specs.Circuit.{Variable, Circuit}
use Rattle.gadget_text.specs.declared.token.Header.{Header}
use Rattle.gadget_text.specs.Tokens.{TokenLine}
use Rattle.gadget_text.specs.declared.file_error.FileError.{FileError}
use Rattle.gadget_text.specs.Errors.{◌>>=◌}
use Rattle.gadget_headers.specs.Headers.{Preamble, header_of}
use Rattle.gadget_grammar.specs.Assignments.{Assigned}
use Rattle.gadget_grammar.proofs.Said.{assignment_once}
use Rattle.gadget_tree.specs.File.{file_headers, named_variables, with_assigned, SaysByHeader, Follows, LinesSay, with_outputs, BodySays, FileSays}
use Rattle.gadget_tree.proofs.Follows.{follows_once}

-- a line after the headers
line_once : (earlier : List Variable) (line : TokenLine) (o : Option Header) (r s : Result (List Variable) FileError) → SaysByHeader earlier line o r → SaysByHeader earlier line o s → r ≡ s
line_once earlier line None r s g h =
    g.2 ∙ ap (λ (z : Result Assigned FileError). z >>= with_assigned line.number earlier) (assignment_once line g.0 h.0 g.1 h.1) ∙ sym h.2
line_once earlier line (Some header) r s g h = g ∙ sym h

-- the lines after the headers
lines_once : (lines : List TokenLine) (earlier : List Variable) (r s : Result (List Variable) FileError) → LinesSay earlier lines r → LinesSay earlier lines s → r ≡ s
lines_once [] earlier r s g h = g ∙ sym h
lines_once (line ∷ lines) earlier r s g h =
    let e = line_once earlier line (header_of line.lexemes) g.0 h.0 g.1 h.1 in
    follows_once g.0 (λ now. LinesSay now lines r) (λ now. LinesSay now lines s) r s (λ now. lines_once lines now r s) g.2
    (subst (λ (z : Result (List Variable) FileError). Follows z (λ now. LinesSay now lines s) s) (sym e) h.2)

-- the lines and the end of the file
body_once : (h : Preamble) (start : List Variable) (r s : Result Circuit FileError) → BodySays h start r → BodySays h start s → r ≡ s
body_once h start r s f g =
    f.2 ∙ ap (λ (z : Result (List Variable) FileError). z >>= with_outputs h) (lines_once h.lines start f.0 g.0 f.1 g.1) ∙ sym g.2

-- the whole file
pub one_reading : (bytes : List ℕ) (r s : Result Circuit FileError) → FileSays bytes r → FileSays bytes s → r ≡ s
unfolding FileSays
one_reading bytes r s f g =
    follows_once (file_headers bytes) (λ h. Follows (named_variables h) (λ start. BodySays h start r) r) (λ h. Follows (named_variables h) (λ start. BodySays h start s) s) r s
    (λ h. follows_once (named_variables h) (λ start. BodySays h start r) (λ start. BodySays h start s) r s (λ start. body_once h start r s)) f g
