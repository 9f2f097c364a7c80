-- A file says at least one thing.
use Rattle.std.proofs.Common.{ℕ, List, [], ◌∷◌, Option, Some, None, Result, Ok, Err, refl}
use Rattle.gadget_model.specs.Circuit.{Variable, Circuit}
use Rattle.gadget_text.specs.declared.token.Header.{Header}
use Rattle.gadget_text.specs.Tokens.{TokenLine}
use Rattle.gadget_text.specs.declared.file_error.FileError.{FileError}
use Rattle.gadget_text.specs.declared.file_error.FileError.TheVariants.{Syntax}
use Rattle.gadget_text.specs.Errors.{◌>>=◌}
use Rattle.gadget_headers.specs.Headers.{Preamble, header_of}
use Rattle.gadget_grammar.proofs.Said.{assignment_some}
use Rattle.gadget_tree.specs.File.{file_headers, named_variables, with_assigned, SaysByHeader, Follows, LinesSay, with_outputs, BodySays, FileSays}
use Rattle.gadget_tree.proofs.Follows.{follows_some}

-- a line after the headers
line_some : (earlier : List Variable) (line : TokenLine) (o : Option Header) → (r : Result (List Variable) FileError) × SaysByHeader earlier line o r
line_some earlier line None = let said = assignment_some line in (said.0 >>= with_assigned line.number earlier, (said.0, said.1, refl))
line_some earlier line (Some header) = (Err (Syntax line.number), refl)

-- the lines after the headers
lines_some : (lines : List TokenLine) (earlier : List Variable) → (r : Result (List Variable) FileError) × LinesSay earlier lines r
lines_some [] earlier = (Ok earlier, refl)
lines_some (line ∷ lines) earlier =
    let first = line_some earlier line (header_of line.lexemes) in
    let others = follows_some first.0 (λ now r. LinesSay now lines r) (lines_some lines) in
    (others.0, (first.0, first.1, others.1))

-- the lines and the end of the file
body_some : (h : Preamble) (start : List Variable) → (r : Result Circuit FileError) × BodySays h start r
body_some h start =
    let lines = lines_some h.lines start in
    (lines.0 >>= with_outputs h, (lines.0, lines.1, refl))

-- the whole file
pub some_reading : (bytes : List ℕ) → (r : Result Circuit FileError) × FileSays bytes r
unfolding FileSays
some_reading bytes =
    follows_some (file_headers bytes) (λ h r. Follows (named_variables h) (λ start. BodySays h start r) r)
    (λ h. follows_some (named_variables h) (λ start r. BodySays h start r) (body_some h))
