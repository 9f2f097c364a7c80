-- The spans of tokens rise.
use Rattle.std.proofs.Common.{◌≡◌, ◌<◌, ◌≤◌, ◌+◌, ℕ, [], ◌∷◌, ◌++◌, Bool, true, false, List, cond, length, drop, ap, ◌∙◌, arith, length-append}
use Rattle.gadget_text.specs.declared.token.Header.{Header}
use Rattle.gadget_text.specs.declared.token.TokenKind.TheVariants.{Head, Word, Equals, Plus, Times, Open, Close, Other}
use Rattle.gadget_text.specs.declared.token.Token.{Token}
use Rattle.gadget_text.specs.declared.words.Words.{Words}
use Rattle.gadget_text.specs.declared.words.Words.TheVariants.{Solid, Named}
use Rattle.gadget_text.specs.declared.line_kind.LineKind.{LineKind}
use Rattle.gadget_text.specs.declared.line_kind.LineKind.TheVariants.{Blank, Comment, HeaderLine, Assignment}
use Rattle.gadget_text.specs.Bytes.{is_blank, is_in_word, sign_kind}
use Rattle.gadget_text.specs.Lines.{pieces_of, without_return, header_word, line_kind, kept_part}
use Rattle.gadget_text.specs.Segments.{Segment, gap, token, onto_word, segments, header_segments, kept_segments, line_segments, joined}
use Rattle.gadget_text.specs.Places.{placed, placed_lines, tokens_of, Rises}
use Rattle.gadget_text.proofs.Sides.{line_front}
use Rattle.gadget_text.proofs.Slices.{fed, fed_file}

-- no token is empty
abbrev pub AreFull : List Segment → Type 0
AreFull [] = Unit {0}
AreFull (gap b ∷ ss) = AreFull ss
AreFull (token kind w ∷ ss) = (0 < length w) × AreFull ss

onto_full : (b : ℕ) (ss : List Segment) → AreFull ss → AreFull (onto_word b ss)
onto_full b [] h = (omega arith, tt)
onto_full b (gap c ∷ ss) h = (omega arith, h)
onto_full b (token (Head g) w ∷ ss) h = (omega arith, h)
onto_full b (token Word w ∷ ss) h = (omega arith, h.1)
onto_full b (token Equals w ∷ ss) h = (omega arith, h)
onto_full b (token Plus w ∷ ss) h = (omega arith, h)
onto_full b (token Times w ∷ ss) h = (omega arith, h)
onto_full b (token Open w ∷ ss) h = (omega arith, h)
onto_full b (token Close w ∷ ss) h = (omega arith, h)
onto_full b (token Other w ∷ ss) h = (omega arith, h)

byte_full : (inside blank : Bool) (b : ℕ) (ss : List Segment) → AreFull ss → AreFull (cond inside (onto_word b ss) (cond blank (gap b ∷ ss) (token (sign_kind b) (b ∷ []) ∷ ss)))
byte_full true blank b ss h = onto_full b ss h
byte_full false true b ss h = h
byte_full false false b ss h = (omega arith, h)

segments_full : (words : Words) (bs : List ℕ) → AreFull (segments words bs)
segments_full words [] = tt
segments_full words (b ∷ bs) = byte_full (is_in_word words b) (is_blank b) b (segments words bs) (segments_full words bs)

header_by_cases : (blank : Bool) (h : Header) (b : ℕ) (bs : List ℕ) → AreFull (header_segments h bs) →
    AreFull (cond blank (gap b ∷ header_segments h bs) (token (Head h) (b ∷ header_word h) ∷ segments Solid (drop (length (header_word h)) bs)))
header_by_cases true h b bs f = f
header_by_cases false h b bs f = (omega arith, segments_full Solid (drop (length (header_word h)) bs))

header_full : (h : Header) (bs : List ℕ) → AreFull (header_segments h bs)
header_full h [] = tt
header_full h (b ∷ bs) = header_by_cases (is_blank b) h b bs (header_full h bs)

kind_full : (kind : LineKind) (kept : List ℕ) → AreFull (kept_segments kind kept)
kind_full Blank kept = tt
kind_full Comment kept = tt
kind_full (HeaderLine h) kept = header_full h kept
kind_full Assignment kept = segments_full Named kept

rises_within : (low from to high : ℕ) (ts : List Token) → low ≤ from → to ≤ high → Rises from to ts → Rises low high ts
rises_within low from to high [] l k h = omega (arith, l, k, h)
rises_within low from to high (t ∷ ts) l k h = (omega (arith, l, h.0), h.1, rises_within t.to t.to to high ts (omega arith) k h.2)

rises_both : (from mid to : ℕ) (ts us : List Token) → Rises from mid ts → Rises mid to us → Rises from to (ts ++ us)
rises_both from mid to [] us h k = rises_within from mid to to us h (omega arith) k
rises_both from mid to (t ∷ ts) us h k = (h.0, h.1, rises_both t.to mid to ts us h.2 k)

-- the spans of segments side by side
placed_rise : (number at to : ℕ) (ss : List Segment) → AreFull ss → at + length (joined ss) ≤ to → Rises at to (placed number at ss)
placed_rise number at to [] h l = omega (arith, l)
placed_rise number at to (gap b ∷ ss) h l = rises_within at (at + 1) to to (placed number (at + 1) ss) (omega arith) (omega arith) (placed_rise number (at + 1) to ss h (omega (arith, l)))
placed_rise number at to (token kind w ∷ ss) h l = (omega arith, omega (arith, h.0), placed_rise number (at + length w) to ss h.1 (omega (arith, l, length-append w (joined ss))))

line_rises : (number at : ℕ) (line : List ℕ) → Rises at (at + length line) (placed number at (line_segments (without_return line)))
line_rises number at line =
    let ss = line_segments (without_return line) in
    let front = line_front line in
    let k : length line ≡ length (joined ss) + length front.0 = ap length front.1 ∙ length-append (joined ss) front.0 in
    placed_rise number at (at + length line) ss (kind_full (line_kind (without_return line)) (kept_part (without_return line))) (omega (arith, k))

lines_rise : (number at to : ℕ) (pieces : List (List ℕ)) → at + length (fed pieces) ≤ to → Rises at to (placed_lines number at pieces)
lines_rise number at to [] l = omega (arith, l)
lines_rise number at to (line ∷ []) l = rises_both at (at + length line) to (placed number at (line_segments (without_return line))) [] (line_rises number at line) (omega (arith, l))
lines_rise number at to (line ∷ next ∷ pieces) l =
    let rest = placed_lines (number + 1) (at + length line + 1) (next ∷ pieces) in
    rises_both at (at + length line) to (placed number at (line_segments (without_return line))) rest (line_rises number at line)
    (rises_within (at + length line) (at + length line + 1) to to rest (omega arith) (omega arith)
    (lines_rise (number + 1) (at + length line + 1) to (next ∷ pieces) (omega (arith, l, length-append line (10 ∷ fed (next ∷ pieces))))))

pub file_rises : (bytes : List ℕ) → Rises 0 (length bytes) (tokens_of bytes)
unfolding tokens_of
file_rises bytes = let e : length (fed (pieces_of bytes)) ≡ length bytes = ap length (fed_file bytes) in lines_rise 1 0 (length bytes) (pieces_of bytes) (omega (arith, e))
