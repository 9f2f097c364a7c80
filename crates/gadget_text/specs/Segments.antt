-- A line in segments: its tokens, and the blanks between them.
use Rattle.std.specs.Prelude.{ℕ, if◌then◌else◌, List, [], ◌∷◌, ◌++◌, length, drop}
use Rattle.gadget_text.specs.declared.token.Header.{Header}
use Rattle.gadget_text.specs.declared.token.TokenKind.{TokenKind}
use Rattle.gadget_text.specs.declared.token.TokenKind.TheVariants.{Head, Word}
use Rattle.gadget_text.specs.declared.words.Words.{Words}
use Rattle.gadget_text.specs.declared.words.Words.TheVariants.{Solid, Named}
use Rattle.gadget_text.specs.declared.line_kind.LineKind.{LineKind}
use Rattle.gadget_text.specs.declared.line_kind.LineKind.TheVariants.{Blank, Comment, HeaderLine, Assignment}
use Rattle.gadget_text.specs.Bytes.{is_blank, is_in_word, sign_kind}
use Rattle.gadget_text.specs.Lines.{header_word, line_kind, kept_part}

-- a blank, or a token with its text
pub data Segment : Type 0 where
  gap : ℕ → Segment
  token : TokenKind → List ℕ → Segment

-- a byte of a word in front of segments belongs to the word that begins there, or is a word of its own
abbrev pub onto_word : ℕ → List Segment → List Segment
onto_word b (token Word text ∷ segments) = token Word (b ∷ text) ∷ segments
onto_word b segments = token Word (b ∷ []) ∷ segments

-- The segments of bytes: each maximal run of bytes of words is a word, and each other byte stands alone.
abbrev pub segments : Words → List ℕ → List Segment
segments words [] = []
segments words (b ∷ bs) =
    if is_in_word words b then onto_word b (segments words bs)
    else (if is_blank b then gap b ∷ segments words bs
    else token (sign_kind b) (b ∷ []) ∷ segments words bs)

-- the segments of the kept part of a header line: `#` with the header's word is one token, and solid words follow
abbrev pub header_segments : Header → List ℕ → List Segment
header_segments h [] = []
header_segments h (b ∷ bs) =
    if is_blank b then gap b ∷ header_segments h bs
    else token (Head h) (b ∷ header_word h) ∷ segments Solid (drop (length (header_word h)) bs)

-- the segments of a line of this kind with this kept part
abbrev pub kept_segments : LineKind → List ℕ → List Segment
kept_segments Blank kept = []
kept_segments Comment kept = []
kept_segments (HeaderLine h) kept = header_segments h kept
kept_segments Assignment kept = segments Named kept

-- the segments of a line
abbrev pub line_segments : List ℕ → List Segment
line_segments line = kept_segments (line_kind line) (kept_part line)

-- the bytes of segments, side by side
abbrev pub joined : List Segment → List ℕ
joined [] = []
joined (gap b ∷ segments) = b ∷ joined segments
joined (token kind text ∷ segments) = text ++ joined segments
