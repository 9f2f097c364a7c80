-- The segments of a line stand side by side in it.
use Rattle.std.proofs.Common.{◌≡◌, ℕ, [], ◌∷◌, ◌++◌, Bool, true, false, List, cond, length, drop, eqb, refl, sym, ap, ◌∙◌, append_assoc}
use Rattle.gadget_text.specs.declared.token.Header.{Header}
use Rattle.gadget_text.specs.declared.token.TokenKind.TheVariants.{Head, Word, Equals, Plus, Times, Open, Close, Other}
use Rattle.gadget_text.specs.declared.words.Words.{Words}
use Rattle.gadget_text.specs.declared.words.Words.TheVariants.{Solid, Named}
use Rattle.gadget_text.specs.declared.line_kind.LineKind.{LineKind}
use Rattle.gadget_text.specs.declared.line_kind.LineKind.TheVariants.{Blank, Comment, HeaderLine, Assignment}
use Rattle.gadget_text.specs.Bytes.{is_blank, is_hash, is_in_word, sign_kind}
use Rattle.gadget_text.specs.Lines.{without_return, header_word, header_behind, hash_kind, line_kind, before_hash, kept_part, counts}
use Rattle.gadget_text.specs.Segments.{Segment, gap, token, onto_word, segments, header_segments, kept_segments, line_segments, joined}
use Rattle.gadget_text.proofs.Headers.{header_starts}

-- a byte of a word in front
onto_joined : (b : ℕ) (ss : List Segment) → joined (onto_word b ss) ≡ b ∷ joined ss
onto_joined b [] = refl
onto_joined b (gap c ∷ ss) = refl
onto_joined b (token (Head h) w ∷ ss) = refl
onto_joined b (token Word w ∷ ss) = refl
onto_joined b (token Equals w ∷ ss) = refl
onto_joined b (token Plus w ∷ ss) = refl
onto_joined b (token Times w ∷ ss) = refl
onto_joined b (token Open w ∷ ss) = refl
onto_joined b (token Close w ∷ ss) = refl
onto_joined b (token Other w ∷ ss) = refl

byte_joined : (inside blank : Bool) (b : ℕ) (ss : List Segment) → joined (cond inside (onto_word b ss) (cond blank (gap b ∷ ss) (token (sign_kind b) (b ∷ []) ∷ ss))) ≡ b ∷ joined ss
byte_joined true blank b ss = onto_joined b ss
byte_joined false true b ss = refl
byte_joined false false b ss = refl

-- the segments of bytes are the bytes
pub segments_joined : (words : Words) (bs : List ℕ) → joined (segments words bs) ≡ bs
segments_joined words [] = refl
segments_joined words (b ∷ bs) = byte_joined (is_in_word words b) (is_blank b) b (segments words bs) ∙ ap (λ (z : List ℕ). b ∷ z) (segments_joined words bs)

solid_joined : (hash : Bool) (h : Header) (b : ℕ) (bs : List ℕ) → cond hash (hash_kind (header_behind bs)) Assignment ≡ HeaderLine h →
    (b ∷ header_word h) ++ joined (segments Solid (drop (length (header_word h)) (before_hash bs))) ≡ b ∷ before_hash bs
solid_joined true h b bs e =
    let rest = drop (length (header_word h)) (before_hash bs) in
    ap (λ (z : List ℕ). b ∷ (header_word h ++ z)) (segments_joined Solid rest) ∙ ap (λ (z : List ℕ). b ∷ z) (sym (header_starts h bs e))
solid_joined false h b bs e = absurd cc

header_by_cases : (blank : Bool) (h : Header) (b : ℕ) (bs : List ℕ) → is_blank b ≡ blank → cond blank (line_kind bs) (cond (is_hash b) (hash_kind (header_behind bs)) Assignment) ≡ HeaderLine h →
    (line_kind bs ≡ HeaderLine h → joined (header_segments h (kept_part bs)) ≡ kept_part bs) →
    joined (header_segments h (b ∷ cond blank (kept_part bs) (before_hash bs))) ≡ b ∷ cond blank (kept_part bs) (before_hash bs)
header_by_cases true h b bs f e ih =
    ap (λ (z : Bool). joined (cond z (gap b ∷ header_segments h (kept_part bs)) (token (Head h) (b ∷ header_word h) ∷ segments Solid (drop (length (header_word h)) (kept_part bs))))) f
    ∙ ap (λ (z : List ℕ). b ∷ z) (ih e)
header_by_cases false h b bs f e ih =
    ap (λ (z : Bool). joined (cond z (gap b ∷ header_segments h (before_hash bs)) (token (Head h) (b ∷ header_word h) ∷ segments Solid (drop (length (header_word h)) (before_hash bs))))) f
    ∙ solid_joined (is_hash b) h b bs e

header_joined : (h : Header) (line : List ℕ) → line_kind line ≡ HeaderLine h → joined (header_segments h (kept_part line)) ≡ kept_part line
header_joined h [] e = absurd cc
header_joined h (b ∷ bs) e = header_by_cases (is_blank b) h b bs refl e (header_joined h bs)

kind_joined : (kind : LineKind) (line : List ℕ) → line_kind line ≡ kind → counts kind ≡ true → joined (kept_segments kind (kept_part line)) ≡ kept_part line
kind_joined Blank line e c = absurd cc
kind_joined Comment line e c = absurd cc
kind_joined (HeaderLine h) line e c = header_joined h line e
kind_joined Assignment line e c = segments_joined Named (kept_part line)

-- the segments of a line that counts are its kept part
pub line_joined : (line : List ℕ) → counts (line_kind line) ≡ true → joined (line_segments line) ≡ kept_part line
line_joined line c = kind_joined (line_kind line) line refl c

-- one list is the front of another
abbrev pub IsFront : List ℕ → List ℕ → Type 0
IsFront a b = (c : List ℕ) × (b ≡ a ++ c)

pub front_of_front : (a b c : List ℕ) → IsFront a b → IsFront b c → IsFront a c
front_of_front a b c f g = (f.0 ++ g.0, g.1 ∙ ap (λ (z : List ℕ). z ++ g.0) f.1 ∙ append_assoc a f.0 g.0)

front_more : (b : ℕ) (xs ys : List ℕ) → IsFront xs ys → IsFront (b ∷ xs) (b ∷ ys)
front_more b xs ys f = (f.0, ap (λ (z : List ℕ). b ∷ z) f.1)

return_by_cases : (return : Bool) (b : ℕ) → IsFront (cond return [] (b ∷ [])) (b ∷ [])
return_by_cases true b = (b ∷ [], refl)
return_by_cases false b = ([], refl)

-- a line without its carriage return is its front
pub return_front : (line : List ℕ) → IsFront (without_return line) line
return_front [] = ([], refl)
return_front (b ∷ []) = return_by_cases (eqb b 13) b
return_front (b ∷ c ∷ bs) = front_more b (without_return (c ∷ bs)) (c ∷ bs) (return_front (c ∷ bs))

before_by_cases : (hash : Bool) (b : ℕ) (bs : List ℕ) → IsFront (before_hash bs) bs → IsFront (cond hash [] (b ∷ before_hash bs)) (b ∷ bs)
before_by_cases true b bs f = (b ∷ bs, refl)
before_by_cases false b bs f = front_more b (before_hash bs) bs f

before_front : (bs : List ℕ) → IsFront (before_hash bs) bs
before_front [] = ([], refl)
before_front (b ∷ bs) = before_by_cases (is_hash b) b bs (before_front bs)

kept_by_cases : (blank : Bool) (b : ℕ) (bs : List ℕ) → IsFront (kept_part bs) bs → IsFront (b ∷ cond blank (kept_part bs) (before_hash bs)) (b ∷ bs)
kept_by_cases true b bs f = front_more b (kept_part bs) bs f
kept_by_cases false b bs f = front_more b (before_hash bs) bs (before_front bs)

-- the kept part of a line is its front
pub kept_front : (line : List ℕ) → IsFront (kept_part line) line
kept_front [] = ([], refl)
kept_front (b ∷ bs) = kept_by_cases (is_blank b) b bs (kept_front bs)

kind_front : (kind : LineKind) (line : List ℕ) → line_kind line ≡ kind → IsFront (joined (kept_segments kind (kept_part line))) line
kind_front Blank line e = (line, refl)
kind_front Comment line e = (line, refl)
kind_front (HeaderLine h) line e = let f = kept_front line in (f.0, f.1 ∙ ap (λ (z : List ℕ). z ++ f.0) (sym (header_joined h line e)))
kind_front Assignment line e = let f = kept_front line in (f.0, f.1 ∙ ap (λ (z : List ℕ). z ++ f.0) (sym (segments_joined Named (kept_part line))))

-- the segments of a line are its front, also with the carriage return
pub line_front : (line : List ℕ) → IsFront (joined (line_segments (without_return line))) line
line_front line = front_of_front (joined (line_segments (without_return line))) (without_return line) line (kind_front (line_kind (without_return line)) (without_return line) refl) (return_front line)
