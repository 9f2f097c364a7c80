-- The text of each token is its slice of the bytes.
use Rattle.std.proofs.Common.{◌≡◌, ◌+◌, ◌-◌, ℕ, [], ◌∷◌, ◌++◌, List, length, take, drop, map, flat_map, refl, sym, ap, ◌∙◌, arith, append_assoc, append-nil}
use Rattle.std.specs.Prelude.{slice_range}
use Rattle.std.specs.List.{join_with_byte}
use Rattle.std.proofs.lemmas.List.{drop-drop, take_at, drop_at, map-append}
use Rattle.std.proofs.lemmas.List.Splits.{join_with_byte-slice_split}
use Rattle.gadget_text.specs.declared.token.Token.{Token}
use Rattle.gadget_text.specs.Lines.{pieces_of, lines_of, without_return}
use Rattle.gadget_text.specs.Segments.{Segment, gap, token, line_segments, joined}
use Rattle.gadget_text.specs.Tokens.{Lexeme, without_gaps, line_lexemes}
use Rattle.gadget_text.specs.Places.{placed, placed_lines, tokens_of, lexeme_in}
use Rattle.gadget_text.proofs.Sides.{line_front}

-- the lines with their line feeds
abbrev pub fed : List (List ℕ) → List ℕ
fed pieces = join_with_byte 10 pieces

module _ (bytes : List ℕ) where
  -- what stands after some bytes
  drop_on : (at : ℕ) (w rest : List ℕ) → drop at bytes ≡ w ++ rest → drop (at + length w) bytes ≡ rest
  drop_on at w rest e = sym (drop-drop (length w) at bytes) ∙ ap (drop (length w)) e ∙ drop_at w rest (length w) refl

  slice_on : (at : ℕ) (w rest : List ℕ) → drop at bytes ≡ w ++ rest → slice_range bytes at (at + length w) ≡ w
  slice_on at w rest e =
      let k : at + length w - at ≡ length w = omega arith in
      ap (λ (z : ℕ). take z (drop at bytes)) k ∙ ap (take (length w)) e ∙ take_at w rest (length w) refl

  -- segments that stand in the bytes have their texts there
  placed_texts : (number at : ℕ) (ss : List Segment) (rest : List ℕ) → drop at bytes ≡ joined ss ++ rest → map (lexeme_in bytes) (placed number at ss) ≡ without_gaps ss
  placed_texts number at [] rest e = refl
  placed_texts number at (gap b ∷ ss) rest e = placed_texts number (at + 1) ss rest (drop_on at (b ∷ []) (joined ss ++ rest) e)
  placed_texts number at (token kind w ∷ ss) rest e =
      let f : drop at bytes ≡ w ++ (joined ss ++ rest) = e ∙ append_assoc w (joined ss) rest in
      ap (λ (z : List ℕ). record { kind = kind; text = z } ∷ map (lexeme_in bytes) (placed number (at + length w) ss)) (slice_on at w (joined ss ++ rest) f)
      ∙ ap (λ (z : List Lexeme). record { kind = kind; text = w } ∷ z) (placed_texts number (at + length w) ss rest (drop_on at w (joined ss ++ rest) f))

  -- the tokens of a line that stands in the bytes
  pub line_texts : (number at : ℕ) (line rest : List ℕ) → drop at bytes ≡ line ++ rest → map (lexeme_in bytes) (placed number at (line_segments (without_return line))) ≡ line_lexemes (without_return line)
  line_texts number at line rest e =
      let front = line_front line in
      placed_texts number at (line_segments (without_return line)) (front.0 ++ rest)
      (e ∙ ap (λ (z : List ℕ). z ++ rest) front.1 ∙ append_assoc (joined (line_segments (without_return line))) front.0 rest)

  -- where the next line stands
  pub next_at : (at : ℕ) (line rest : List ℕ) → drop at bytes ≡ line ++ 10 ∷ rest → drop (at + length line + 1) bytes ≡ rest
  next_at at line rest e = drop_on (at + length line) (10 ∷ []) rest (drop_on at line (10 ∷ rest) e)

  both_texts : (number at : ℕ) (line : List ℕ) (ts : List Token) (rest : List ℕ) (ps : List Lexeme) → drop at bytes ≡ line ++ rest → map (lexeme_in bytes) ts ≡ ps →
      map (lexeme_in bytes) (placed number at (line_segments (without_return line)) ++ ts) ≡ line_lexemes (without_return line) ++ ps
  both_texts number at line ts rest ps e f =
      map-append (lexeme_in bytes) (placed number at (line_segments (without_return line))) ts
      ∙ ap (λ (z : List Lexeme). z ++ map (lexeme_in bytes) ts) (line_texts number at line rest e)
      ∙ ap (λ (z : List Lexeme). line_lexemes (without_return line) ++ z) f

  lines_texts : (number at : ℕ) (pieces : List (List ℕ)) → drop at bytes ≡ fed pieces → map (lexeme_in bytes) (placed_lines number at pieces) ≡ flat_map line_lexemes (map without_return pieces)
  lines_texts number at [] e = refl
  lines_texts number at (line ∷ []) e = both_texts number at line [] [] [] (e ∙ sym (append-nil line)) refl
  lines_texts number at (line ∷ next ∷ pieces) e =
      both_texts number at line (placed_lines (number + 1) (at + length line + 1) (next ∷ pieces)) (10 ∷ fed (next ∷ pieces)) (flat_map line_lexemes (map without_return (next ∷ pieces))) e
      (lines_texts (number + 1) (at + length line + 1) (next ∷ pieces) (next_at at line (fed (next ∷ pieces)) e))

-- the lines with their line feeds are the file
pub fed_file : (bytes : List ℕ) → fed (pieces_of bytes) ≡ bytes
fed_file bytes = join_with_byte-slice_split 10 bytes

pub file_texts : (bytes : List ℕ) → map (lexeme_in bytes) (tokens_of bytes) ≡ flat_map line_lexemes (lines_of bytes)
unfolding tokens_of
file_texts bytes = lines_texts bytes 1 0 (pieces_of bytes) (sym (fed_file bytes))
