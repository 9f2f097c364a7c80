-- What a file that is read has said, part by part.
use Rattle.std.proofs.Common.{◌≡◌, ℕ, List, Option, Some, None, Result, Ok, sym, subst}
use Rattle.std.specs.Prelude.{option_map}
use Rattle.gadget_model.specs.Circuit.{Variable, Circuit}
use Rattle.gadget_text.specs.Lines.{lines_of, first_not_text}
use Rattle.gadget_text.specs.Tokens.{TokenLine, token_lines}
use Rattle.gadget_text.specs.declared.file_error.FileError.{FileError}
use Rattle.gadget_text.specs.declared.file_error.FileError.TheVariants.{NotText}
use Rattle.gadget_text.specs.Errors.{refuse_found, ◌>>=◌, ◌>>◌}
use Rattle.gadget_headers.specs.Headers.{Preamble, preamble_of}
use Rattle.gadget_text.proofs.Results.{then_gives}
use Rattle.gadget_tree.specs.File.{file_headers, named_variables, Follows, LinesSay, with_outputs, BodySays, FileSays}
use Rattle.gadget_tree.proofs.Follows.{follows_ok}

-- what was said on the way to a gadget: the headers, the variables that they name, all variables after the lines, and the gadget
pub record IsFileRead (bytes : List ℕ) (g : Circuit) (h : Preamble) (start variables : List Variable) : Type 0 where
  pub headers : preamble_of (token_lines bytes) ≡ Ok h
  pub names : named_variables h ≡ Ok start
  pub lines : LinesSay start h.lines (Ok variables)
  pub outputs : with_outputs h variables ≡ Ok g

-- what holds of an equal result
says_ok : (start : List Variable) (lines : List TokenLine) (s : Result (List Variable) FileError) (variables : List Variable) → s ≡ Ok variables → LinesSay start lines s → LinesSay start lines (Ok variables)
says_ok start lines s variables e h = subst (LinesSay start lines) e h

-- the headers of a file that is text
headers_ok : (bytes : List ℕ) (o : Option ℕ) (h : Preamble) → ((refuse_found (option_map NotText o) >> Ok (token_lines bytes)) >>= preamble_of) ≡ Ok h → preamble_of (token_lines bytes) ≡ Ok h
headers_ok bytes None h e = e
headers_ok bytes (Some line) h e = absurd cc

-- a file that is read has said all that
pub file_read : (bytes : List ℕ) (g : Circuit) → FileSays bytes (Ok g) → (h : Preamble) × (start : List Variable) × (variables : List Variable) × IsFileRead bytes g h start variables
unfolding FileSays
file_read bytes g says =
    let r : Result Circuit FileError = Ok g in
    let a = follows_ok (file_headers bytes) (λ h. Follows (named_variables h) (λ start. BodySays h start r) r) g says in
    let b = follows_ok (named_variables a.0) (λ start. BodySays a.0 start r) g a.2 in
    let c = b.2 in
    let d = then_gives c.0 (with_outputs a.0) g (sym c.2) in
    (a.0, b.0, d.0, record { headers = headers_ok bytes (first_not_text 1 (lines_of bytes)) a.0 a.1; names = b.1; lines = says_ok b.0 a.0.lines c.0 d.0 d.1 c.1; outputs = d.2 })
