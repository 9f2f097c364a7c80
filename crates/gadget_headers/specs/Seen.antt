-- The code's headers without their places.
use Rattle.std.specs.Prelude.{◌≡◌, ℕ, List, ◌++◌, map, All, Result, IfSome, option_map}
use Rattle.gadget_text.specs.declared.token.Header.{Header}
use Rattle.gadget_text.specs.declared.token.Token.{Token}
use Rattle.gadget_text.specs.Places.{text_in, lines_in, LiesWithin}
use Rattle.gadget_headers.specs.declared.stems.Stems.{Stems}
use Rattle.gadget_headers.specs.declared.headers.Headers.{Headers}
use Rattle.gadget_headers.specs.declared.so_far.SoFar.{SoFar}
use Rattle.gadget_headers.specs.declared.header_line.HeaderLine.{HeaderLine}
use Rattle.gadget_text.specs.declared.file_error.FileError.{FileError}
use Rattle.gadget_text.specs.Errors.{◌>>=◌}
use Rattle.gadget_headers.specs.Headers as said

-- the texts of tokens
abbrev pub texts_in : List ℕ → List Token → List (List ℕ)
texts_in bytes words = map (text_in bytes) words

abbrev pub listed_in : List ℕ → Stems → said.Listed
listed_in bytes stems = record { line = stems.line; stems = texts_in bytes stems.words.now }

abbrev pub so_far_in : List ℕ → SoFar → said.SoFar
so_far_in bytes h = record {
  has_profile = h.has_profile;
  shares = h.shares;
  inputs = option_map (listed_in bytes) h.inputs;
  randoms = option_map (listed_in bytes) h.randoms;
  outputs = option_map (listed_in bytes) h.outputs;
}

abbrev pub preamble_in : List ℕ → Headers → said.Preamble
preamble_in bytes h = record {
  shares = h.shares;
  inputs = listed_in bytes h.inputs;
  randoms = option_map (listed_in bytes) h.randoms;
  outputs = listed_in bytes h.outputs;
  lines = lines_in bytes h.rest.now;
}

-- at these tokens the headers end, whatever they said before
abbrev pub EndHeaders : List Token → Type 0
EndHeaders tokens =
    (bytes : List ℕ) (h : said.SoFar) →
    said.headers_from h (lines_in bytes tokens) ≡ said.end_headers h (lines_in bytes tokens)

-- what the headers say from a header line on, where they said so much before it
abbrev pub said_from : List ℕ → said.SoFar → HeaderLine → Result said.Preamble FileError
said_from bytes h l = do
  now ← said.with_header l.line h (texts_in bytes l.words.now) l.header
  said.headers_from now (lines_in bytes l.rest.now)

-- at these tokens the headers go on with a header line, whatever they said before
abbrev pub GoesOn : List Token → HeaderLine → Type 0
GoesOn tokens l = (bytes : List ℕ) (h : said.SoFar) → said.headers_from h (lines_in bytes tokens) ≡ said_from bytes h l

-- what a header line with these words says, where the headers said so much before it
abbrev pub header_said : List ℕ → ℕ → SoFar → List Token → Header → Result said.SoFar FileError
header_said bytes line h words header = said.with_header line (so_far_in bytes h) (texts_in bytes words) header

-- the same of a header line in its parts
abbrev pub line_said : List ℕ → SoFar → HeaderLine → Result said.SoFar FileError
line_said bytes h l = header_said bytes l.line h l.words.now l.header

-- all tokens end with these
abbrev pub EndsWith : List Token → List Token → Type 0
EndsWith all own = (before : List Token) × (before ++ own ≡ all)

-- these stand side by side among all tokens
abbrev pub IsPiece : List Token → List Token → Type 0
IsPiece all own = (before : List Token) × (after : List Token) × (before ++ own ++ after ≡ all)

-- the words are a piece of all tokens
abbrev pub ArePiece : List Token → Stems → Type 0
ArePiece all stems = IsPiece all stems.words.now

-- the words of the headers so far are pieces of all tokens
pub record IsSoFarOf (all : List Token) (h : SoFar) : Type 0 where
  pub inputs : IfSome h.inputs (ArePiece all)
  pub randoms : IfSome h.randoms (ArePiece all)
  pub outputs : IfSome h.outputs (ArePiece all)

-- the headers so far stay of all tokens where these words are a piece of them
abbrev pub StaysOf : List Token → SoFar → SoFar → Type 0
StaysOf words old new = (all : List Token) → IsPiece all words → IsSoFarOf all old → IsSoFarOf all new

-- the words of the headers are pieces of all tokens, which end with those after the headers
pub record AreHeadersOf (all : List Token) (h : Headers) : Type 0 where
  pub inputs : ArePiece all h.inputs
  pub randoms : IfSome h.randoms (ArePiece all)
  pub outputs : ArePiece all h.outputs
  pub rest : EndsWith all h.rest.now

-- the words lie within so many bytes
abbrev pub AreWordsWithin : ℕ → Stems → Type 0
AreWordsWithin len stems = All (LiesWithin len) stems.words.now

-- the words of the headers and the tokens after them lie within so many bytes
pub record AreHeadersWithin (len : ℕ) (h : Headers) : Type 0 where
  pub inputs : AreWordsWithin len h.inputs
  pub randoms : IfSome h.randoms (AreWordsWithin len)
  pub outputs : AreWordsWithin len h.outputs
  pub rest : All (LiesWithin len) h.rest.now
