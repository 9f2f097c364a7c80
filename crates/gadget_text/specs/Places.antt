-- The tokens of a file with their places.
use Rattle.std.specs.Prelude.{◌≡◌, ℕ, ◌+◌, ◌<◌, ◌≤◌, ◌==◌, if◌then◌else◌, List, [], ◌∷◌, ◌++◌, map, length, slice_range, flat_map, Option, Some}
use Rattle.gadget_text.specs.declared.token.Token.{Token}
use Rattle.gadget_text.specs.declared.token.TextError.{TextError}
use Rattle.gadget_text.specs.declared.token.TextError.TheVariants.{NotText, OutOfMemory}
use Rattle.gadget_text.specs.declared.line_tokens.LineTokens.{LineTokens}
use Rattle.gadget_text.specs.Lines.{pieces_of, without_return}
use Rattle.gadget_text.specs.Segments.{Segment, gap, token, line_segments}
use Rattle.gadget_text.specs.Tokens.{Lexeme, TokenLine}

-- the tokens among segments that stand side by side from this place on, in the line with this number
abbrev pub placed : ℕ → ℕ → List Segment → List Token
placed number at [] = []
placed number at (gap b ∷ segments) = placed number (at + 1) segments
placed number at (token kind text ∷ segments) =
    record { kind = kind; from = at; to = at + length text; line = number } ∷ placed number (at + length text) segments

-- The tokens of the pieces between line feeds, the first of which has this number and stands at this place. After each
-- stands a line feed, and a carriage return that was dropped keeps its place.
abbrev pub placed_lines : ℕ → ℕ → List (List ℕ) → List Token
placed_lines number at [] = []
placed_lines number at (piece ∷ pieces) =
    placed number at (line_segments (without_return piece)) ++ placed_lines (number + 1) (at + length piece + 1) pieces

-- the tokens of a file
unfoldable pub tokens_of : List ℕ → List Token
tokens_of bytes = placed_lines 1 0 (pieces_of bytes)

-- the error names the line that is no text, unless memory ran out
abbrev pub NamesLine : Option ℕ → TextError → Type 0
NamesLine line (NotText number) = line ≡ Some number
NamesLine line OutOfMemory = Unit {0}

-- the text of a token is its slice of the bytes
abbrev pub text_in : List ℕ → Token → List ℕ
text_in bytes t = slice_range bytes t.from t.to

-- a token of a file without its place
abbrev pub lexeme_in : List ℕ → Token → Lexeme
lexeme_in bytes t = record { kind = t.kind; text = text_in bytes t }

-- the tokens without their places
abbrev pub lexemes_in : List ℕ → List Token → List Lexeme
lexemes_in bytes tokens = map (lexeme_in bytes) tokens

-- the line of tokens that the code tells apart
abbrev pub line_of : List ℕ → LineTokens → TokenLine
line_of bytes line = record { number = line.line; lexemes = lexemes_in bytes line.tokens.now }

-- the token lies within so many bytes
pub record LiesWithin (len : ℕ) (t : Token) : Type 0 where
  pub rises : t.from ≤ t.to
  pub ends : t.to ≤ len

-- the spans are not empty, and rise from one place to another
abbrev pub Rises : ℕ → ℕ → List Token → Type 0
Rises from to [] = from ≤ to
Rises from to (t ∷ ts) = (from ≤ t.from) × (t.from < t.to) × Rises t.to to ts

-- a token in front of runs belongs to the first run where that is of its line, or is a run of its own
abbrev pub onto_run : Token → List (List Token) → List (List Token)
onto_run t [] = (t ∷ []) ∷ []
onto_run t ([] ∷ runs) = (t ∷ []) ∷ runs
onto_run t ((u ∷ us) ∷ runs) = if u.line == t.line then (t ∷ u ∷ us) ∷ runs else (t ∷ []) ∷ (u ∷ us) ∷ runs

-- the maximal runs of tokens of one line
abbrev pub runs_by_line : List Token → List (List Token)
runs_by_line [] = []
runs_by_line (t ∷ ts) = onto_run t (runs_by_line ts)

-- a run of tokens without their places; its line is that of the first
abbrev pub line_in : List ℕ → List Token → List TokenLine
line_in bytes [] = []
line_in bytes (t ∷ ts) = record { number = t.line; lexemes = lexemes_in bytes (t ∷ ts) } ∷ []

-- the lines to which tokens belong
abbrev pub lines_in : List ℕ → List Token → List TokenLine
lines_in bytes tokens = flat_map (line_in bytes) (runs_by_line tokens)
