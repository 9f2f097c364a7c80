-- The tokens of lines without their places.
use Rattle.std.specs.Prelude.{ℕ, ◌+◌, List, [], ◌∷◌}
use Rattle.gadget_text.specs.declared.token.TokenKind.{TokenKind}
use Rattle.gadget_text.specs.Lines.{lines_of}
use Rattle.gadget_text.specs.Segments.{Segment, gap, token, line_segments}

-- a token without its place: what it is, and its text
pub record Lexeme : Type 0 where
  pub kind : TokenKind
  pub text : List ℕ

-- the segments without the blanks
abbrev pub without_gaps : List Segment → List Lexeme
without_gaps [] = []
without_gaps (gap b ∷ segments) = without_gaps segments
without_gaps (token kind text ∷ segments) = record { kind = kind; text = text } ∷ without_gaps segments

-- the tokens of a line
abbrev pub line_lexemes : List ℕ → List Lexeme
line_lexemes line = without_gaps (line_segments line)

-- a line that has tokens, with its number
pub record TokenLine : Type 0 where
  pub number : ℕ
  pub lexemes : List Lexeme

-- a line in front of lines, where it has tokens
abbrev pub onto_lines : ℕ → List Lexeme → List TokenLine → List TokenLine
onto_lines number [] lines = lines
onto_lines number (lexeme ∷ lexemes) lines = record { number = number; lexemes = lexeme ∷ lexemes } ∷ lines

-- the lines that have tokens, numbered from this number on
abbrev pub numbered_lines : ℕ → List (List ℕ) → List TokenLine
numbered_lines number [] = []
numbered_lines number (line ∷ lines) = onto_lines number (line_lexemes line) (numbered_lines (number + 1) lines)

-- the lines of a file that have tokens
abbrev pub token_lines : List ℕ → List TokenLine
token_lines bytes = numbered_lines 1 (lines_of bytes)
