-- The header lines of a gadget file, and the first one that offends.
--
--     #PROFILE 1        the grammar; the line may be missing
--     #SHARES n         into how many shares a secret is split, from 1 to `most_shares`
--     #IN a b ..        one input or more, up to `most_inputs`
--     #RANDOMS r s ..   at most `most_randoms` randoms; the line may be missing
--     #OUT d ..         one output or more, up to `most_outputs`
--
-- They stand in any order, before the first assignment line.
use Rattle.std.specs.Prelude.{ℕ, ◌+◌, ◌*◌, ◌-◌, Bool, true, false, not, ◌&&◌, ◌||◌, ◌==◌, nat_lt, is_some, ok_or, List, [], ◌∷◌, map, length, Option, Some, None, Result, Ok, Err}
use Rattle.std.specs.List.{fold, list_all}
use Rattle.gadget_text.specs.declared.token.Header.{Header}
use Rattle.gadget_text.specs.declared.token.Header.TheVariants.{Profile, Shares, In, Randoms, Out}
use Rattle.gadget_text.specs.declared.token.TokenKind.{TokenKind}
use Rattle.gadget_text.specs.declared.token.TokenKind.TheVariants.{Head, Word, Equals, Plus, Times, Open, Close, Other}
use Rattle.gadget_text.specs.Tokens.{Lexeme, TokenLine}
use Rattle.gadget_text.specs.Names.{is_stem, is_number}
use Rattle.gadget_text.specs.declared.file_error.FileError.{FileError}
use Rattle.gadget_text.specs.declared.file_error.FileError.TheVariants.{Syntax, HeaderTwice, HeaderMissing, BadNumber, BadName, TooMany}
use Rattle.gadget_text.specs.declared.file_error.What.{What}
use Rattle.gadget_text.specs.declared.file_error.What.TheVariants as what
use Rattle.gadget_text.specs.Errors.{refuse, ◌>>=◌, ◌>>◌}
use Rattle.gadget_limits.specs.Limits.{most_shares, most_inputs, most_outputs, most_randoms}

-- the stems that a header lists, and the line that it is
pub record Listed : Type 0 where
  pub line : ℕ
  pub stems : List (List ℕ)

-- what the headers so far say; `None` where a header hasn't come
pub record SoFar : Type 0 where
  pub has_profile : Bool
  pub shares : Option ℕ
  pub inputs : Option Listed
  pub randoms : Option Listed
  pub outputs : Option Listed

abbrev pub no_headers : SoFar
no_headers = record { has_profile = false; shares = None; inputs = None; randoms = None; outputs = None }

-- what all headers of a file say, and the lines after them
pub record Preamble : Type 0 where
  pub shares : ℕ
  pub inputs : Listed
  pub randoms : Option Listed
  pub outputs : Listed
  pub lines : List TokenLine

-- the number that digits write
abbrev pub number_of : List ℕ → ℕ
number_of digits = fold (λ n digit. 10 * n + (digit - 48)) 0 digits

abbrev pub header_of_kind : TokenKind → Option Header
header_of_kind (Head header) = Some header
header_of_kind Word = None
header_of_kind Equals = None
header_of_kind Plus = None
header_of_kind Times = None
header_of_kind Open = None
header_of_kind Close = None
header_of_kind Other = None

-- which header a line is, by its first token; `None` where it is an assignment line
abbrev pub header_of : List Lexeme → Option Header
header_of [] = None
header_of (first ∷ others) = header_of_kind first.kind

-- the words after a header
abbrev pub header_words : List Lexeme → List (List ℕ)
header_words [] = []
header_words (first ∷ others) = map (λ lexeme. lexeme.text) others

-- the word of a header that takes exactly one
abbrev pub one_word : ℕ → List (List ℕ) → Result (List ℕ) FileError
one_word line [] = Err (Syntax line)
one_word line (word ∷ []) = Ok word
one_word line (word ∷ next ∷ words) = Err (Syntax line)

-- a header that takes at least one word has one
abbrev pub some_words : ℕ → List (List ℕ) → Result (Unit {0}) FileError
some_words line [] = Err (Syntax line)
some_words line (word ∷ words) = Ok tt

-- the stems of a header that lists at most so many; `twice` where it came before
abbrev pub listed : ℕ → Bool → ℕ → What → List (List ℕ) → Result Listed FileError
listed line twice most things words = do
  refuse twice (HeaderTwice line)
  refuse (not (list_all is_stem words)) (BadName line)
  refuse (nat_lt most (length words)) (TooMany things)
  Ok (record { line = line; stems = words })

abbrev pub with_profile : ℕ → SoFar → List ℕ → Result SoFar FileError
with_profile line h word = do
  refuse h.has_profile (HeaderTwice line)
  refuse (not (is_number word && number_of word == 1)) (BadNumber line)
  Ok (record h { has_profile = true })

abbrev pub with_shares : ℕ → SoFar → List ℕ → Result SoFar FileError
with_shares line h word = do
  refuse (is_some h.shares) (HeaderTwice line)
  refuse (not (is_number word) || number_of word == 0) (BadNumber line)
  refuse (nat_lt most_shares (number_of word)) (TooMany what.Shares)
  Ok (record h { shares = Some (number_of word) })

-- what the headers say with one more, which is this line and has these words; or its offence
abbrev pub with_header : ℕ → SoFar → List (List ℕ) → Header → Result SoFar FileError
with_header line h words Profile = do
  word ← one_word line words
  with_profile line h word
with_header line h words Shares = do
  word ← one_word line words
  with_shares line h word
with_header line h words In = do
  some_words line words
  stems ← listed line (is_some h.inputs) most_inputs what.Inputs words
  Ok (record h { inputs = Some stems })
with_header line h words Randoms = do
  stems ← listed line (is_some h.randoms) most_randoms what.Randoms words
  Ok (record h { randoms = Some stems })
with_header line h words Out = do
  some_words line words
  stems ← listed line (is_some h.outputs) most_outputs what.Outputs words
  Ok (record h { outputs = Some stems })

-- The headers end: `#SHARES`, `#IN` and `#OUT` have come, or the first of them that hasn't is missing.
abbrev pub end_headers : SoFar → List TokenLine → Result Preamble FileError
end_headers h lines = do
  shares ← ok_or h.shares (HeaderMissing Shares)
  inputs ← ok_or h.inputs (HeaderMissing In)
  outputs ← ok_or h.outputs (HeaderMissing Out)
  Ok (record { shares = shares; inputs = inputs; randoms = h.randoms; outputs = outputs; lines = lines })

-- a header line says something more, and at an assignment line the headers end
abbrev pub at_line :
    {A : Type 0} → ℕ → SoFar → List (List ℕ) → (SoFar → Result A FileError) → Result A FileError → Option Header →
    Result A FileError
at_line line h words go end None = end
at_line line h words go end (Some header) = with_header line h words header >>= go

-- what the headers say, where they said so much before these lines; or the first offence
abbrev pub headers_from : SoFar → List TokenLine → Result Preamble FileError
headers_from h [] = end_headers h []
headers_from h (line ∷ lines) =
    at_line line.number h (header_words line.lexemes) (λ now. headers_from now lines) (end_headers h (line ∷ lines))
    (header_of line.lexemes)

-- what the headers of a file with these lines say, or the first offence
abbrev pub preamble_of : List TokenLine → Result Preamble FileError
preamble_of lines = headers_from no_headers lines
