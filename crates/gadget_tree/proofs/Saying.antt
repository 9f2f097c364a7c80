-- What each step on the way through a file says of it.
use Rattle.std.proofs.Common.{◌≡◌, ℕ, List, Option, None, Result, Ok, Err, refl, sym, ap, ◌∙◌}
use Rattle.std.specs.Prelude.{option_map}
use Rattle.gadget_model.specs.Circuit.{Variable, Circuit}
use Rattle.gadget_text.specs.declared.token.Token.{Token}
use Rattle.gadget_text.specs.Lines.{lines_of, first_not_text}
use Rattle.gadget_text.specs.Tokens.{TokenLine, token_lines}
use Rattle.gadget_text.specs.Places.{tokens_of, lines_in}
use Rattle.gadget_text.proofs.LineRuns.{file_runs}
use Rattle.gadget_text.specs.declared.file_error.FileError.{FileError}
use Rattle.gadget_text.specs.declared.file_error.FileError.TheVariants.{NotText}
use Rattle.gadget_text.specs.Errors.{refuse_found, ◌>>=◌, ◌>>◌}
use Rattle.gadget_headers.specs.Headers.{Preamble, preamble_of}
use Rattle.gadget_tree.specs.File.{file_lines, file_headers, named_variables, Follows, LinesSay, with_outputs, BodySays, FileSays}
use Rattle.gadget_tree.proofs.Follows.{follows_value, follows_offence}

-- what the text of a file says
abbrev pub TextSays : List ℕ → Result (List TokenLine) FileError → Type 0
TextSays bytes r = file_lines bytes ≡ r

-- the tokens of a file that is text
pub text_read : (bytes : List ℕ) (tokens : List Token) → tokens ≡ tokens_of bytes → first_not_text 1 (lines_of bytes) ≡ None → TextSays bytes (Ok (lines_in bytes tokens))
text_read bytes tokens e n =
    let ok : Result (List TokenLine) FileError = Ok (token_lines bytes) in
    ap (λ (o : Option ℕ). refuse_found (option_map NotText o) >> ok) n ∙ ap Ok (sym (ap (lines_in bytes) e ∙ file_runs bytes))

-- the same of equal tokens
pub text_given : (bytes : List ℕ) (tokens given : List Token) → given ≡ tokens → TextSays bytes (Ok (lines_in bytes tokens)) → TextSays bytes (Ok (lines_in bytes given))
text_given bytes tokens given e text = text ∙ ap (λ (ts : List Token). let r : Result (List TokenLine) FileError = Ok (lines_in bytes ts) in r) (sym e)

-- an offence of the text
pub text_refused : (bytes : List ℕ) (error : FileError) → TextSays bytes (Err error) → FileSays bytes (Err error)
unfolding FileSays
text_refused bytes error text =
    let r : Result Circuit FileError = Err error in
    follows_offence Circuit (file_headers bytes) (λ h. Follows (named_variables h) (λ start. BodySays h start r) r) error
    (ap (λ (t : Result (List TokenLine) FileError). t >>= preamble_of) text)

module _ (bytes : List ℕ) (lines : List TokenLine) (text : TextSays bytes (Ok lines)) where
  -- the headers of a file that is text
  headers_said : file_headers bytes ≡ preamble_of lines
  headers_said = ap (λ (t : Result (List TokenLine) FileError). t >>= preamble_of) text

  -- an offence of the headers
  pub headers_refused : (error : FileError) → preamble_of lines ≡ Err error → FileSays bytes (Err error)
  unfolding FileSays
  headers_refused error headers =
      let r : Result Circuit FileError = Err error in
      follows_offence Circuit (file_headers bytes) (λ h. Follows (named_variables h) (λ start. BodySays h start r) r) error (headers_said ∙ headers)

  module _ (h : Preamble) (headers : preamble_of lines ≡ Ok h) where
    -- what follows the headers
    behind_headers : (r : Result Circuit FileError) → Follows (named_variables h) (λ start. BodySays h start r) r → FileSays bytes r
    unfolding FileSays
    behind_headers r says = follows_value (file_headers bytes) (λ h. Follows (named_variables h) (λ start. BodySays h start r) r) r h (headers_said ∙ headers) says

    -- an offence of the names in the headers
    pub names_refused : (error : FileError) → named_variables h ≡ Err error → FileSays bytes (Err error)
    names_refused error names =
        let r : Result Circuit FileError = Err error in
        behind_headers r (follows_offence Circuit (named_variables h) (λ start. BodySays h start r) error names)

    module _ (start : List Variable) (names : named_variables h ≡ Ok start) where
      -- what the lines and the end of the file say
      behind_names : (r : Result Circuit FileError) (s : Result (List Variable) FileError) → LinesSay start h.lines s → r ≡ (s >>= with_outputs h) → FileSays bytes r
      behind_names r s says ends = behind_headers r (follows_value (named_variables h) (λ start. BodySays h start r) r start names (s, says, ends))

      -- an offence of a line
      pub lines_refused : (error : FileError) → LinesSay start h.lines (Err error) → FileSays bytes (Err error)
      lines_refused error says = behind_names (Err error) (Err error) says refl

      -- what the outputs say
      pub file_said : (variables : List Variable) (r : Result Circuit FileError) → LinesSay start h.lines (Ok variables) → with_outputs h variables ≡ r → FileSays bytes r
      file_said variables r says ends = behind_names r (Ok variables) says (sym ends)
