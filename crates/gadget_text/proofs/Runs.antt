-- The segment that bytes begin with.
use Rattle.std.proofs.Common.{◌≡◌, ◌<◌, ◌+◌, ℕ, zero, suc, [], ◌∷◌, ◌++◌, Bool, true, false, List, cond, eqb, ◌&&◌, ◌||◌, length, take, drop, refl, sym, ap, ◌∙◌, subst, arith, append_assoc}
use Rattle.std.specs.List.{prefix_len, list_all}
use Rattle.std.proofs.lemmas.List.{take_at, drop_at}
use Rattle.std.proofs.lemmas.List.Folds.{length-prefix_len}
use Rattle.gadget_text.specs.declared.token.Token.{Token}
use Rattle.gadget_text.specs.declared.token.TokenKind.TheVariants.{Word, Equals, Plus, Times, Open, Close, Other}
use Rattle.gadget_text.specs.declared.words.Words.{Words}
use Rattle.gadget_text.specs.Bytes.{is_blank, is_in_word, sign_kind}
use Rattle.gadget_text.specs.Segments.{Segment, gap, token, onto_word, segments}
use Rattle.gadget_text.specs.Places.{placed}

-- what stands in front of these segments, a byte of a word, is a word of its own
abbrev pub Alone : List Segment → Type 0
Alone ss = (b : ℕ) → onto_word b ss ≡ token Word (b ∷ []) ∷ ss

sign_by_cases : (c d e f g : Bool) (w : List ℕ) (ss : List Segment) → Alone (token (cond c Equals (cond d Plus (cond e Times (cond f Open (cond g Close Other))))) w ∷ ss)
sign_by_cases true d e f g w ss b = refl
sign_by_cases false true e f g w ss b = refl
sign_by_cases false false true f g w ss b = refl
sign_by_cases false false false true g w ss b = refl
sign_by_cases false false false false true w ss b = refl
sign_by_cases false false false false false w ss b = refl

-- a sign is no word
sign_alone : (c : ℕ) (w : List ℕ) (ss : List Segment) → Alone (token (sign_kind c) w ∷ ss)
sign_alone c w ss = sign_by_cases (eqb c 61) (eqb c 43 || eqb c 94) (eqb c 42 || eqb c 38) (eqb c 40) (eqb c 41) w ss

other_alone : (blank : Bool) (c : ℕ) (ss : List Segment) → Alone (cond blank (gap c ∷ ss) (token (sign_kind c) (c ∷ []) ∷ ss))
other_alone true c ss b = refl
other_alone false c ss b = sign_alone c (c ∷ []) ss b

first_alone : (inside : Bool) (words : Words) (c : ℕ) (cs : List ℕ) → cond inside (1 + prefix_len (is_in_word words) cs) 0 ≡ 0 →
    Alone (cond inside (onto_word c (segments words cs)) (cond (is_blank c) (gap c ∷ segments words cs) (token (sign_kind c) (c ∷ []) ∷ segments words cs)))
first_alone true words c cs e = absurd (omega (arith, e))
first_alone false words c cs e = other_alone (is_blank c) c (segments words cs)

-- bytes that do not begin with one of a word
segments_alone : (words : Words) (xs : List ℕ) → prefix_len (is_in_word words) xs ≡ 0 → Alone (segments words xs)
segments_alone words [] e b = refl
segments_alone words (c ∷ cs) e b = first_alone (is_in_word words c) words c cs e b

-- the bytes from the front on that stand in a word are a word
abbrev pub IsRun : Words → List ℕ → ℕ → Type 0
IsRun words xs n = segments words xs ≡ token Word (take n xs) ∷ segments words (drop n xs)

longer_run : (n : ℕ) (words : Words) (b : ℕ) (bs : List ℕ) → n ≡ prefix_len (is_in_word words) bs → (0 < n → IsRun words bs n) →
    onto_word b (segments words bs) ≡ token Word (take (suc n) (b ∷ bs)) ∷ segments words (drop (suc n) (b ∷ bs))
longer_run zero words b bs e ih = segments_alone words bs (sym e) b
longer_run (suc n) words b bs e ih = ap (onto_word b) (ih (omega arith))

run_by_cases : (inside : Bool) (words : Words) (b : ℕ) (bs : List ℕ) (n : ℕ) → n ≡ cond inside (1 + prefix_len (is_in_word words) bs) 0 → 0 < n →
    ((m : ℕ) → m ≡ prefix_len (is_in_word words) bs → 0 < m → IsRun words bs m) →
    cond inside (onto_word b (segments words bs)) (cond (is_blank b) (gap b ∷ segments words bs) (token (sign_kind b) (b ∷ []) ∷ segments words bs))
    ≡ token Word (take n (b ∷ bs)) ∷ segments words (drop n (b ∷ bs))
run_by_cases true words b bs zero e l ih = absurd (omega arith)
run_by_cases true words b bs (suc n) e l ih = longer_run n words b bs (omega (arith, e)) (ih n (omega (arith, e)))
run_by_cases false words b bs n e l ih = absurd (omega (arith, e, l))

pub word_run : (words : Words) (xs : List ℕ) (n : ℕ) → n ≡ prefix_len (is_in_word words) xs → 0 < n → IsRun words xs n
word_run words [] n e l = absurd (omega (arith, e, l))
word_run words (b ∷ bs) n e l = run_by_cases (is_in_word words b) words b bs n e l (λ m. word_run words bs m)

-- a word in front of other bytes
pub word_added : (words : Words) (line at n : ℕ) (xs : List ℕ) (out : List Token) → n ≡ prefix_len (is_in_word words) xs → 0 < n →
    (out ++ record { kind = Word; from = at; to = at + n; line = line } ∷ []) ++ placed line (at + n) (segments words (drop n xs)) ≡ out ++ placed line at (segments words xs)
word_added words line at n xs out e l =
    let w : n ≡ length (take n xs) = subst (λ (z : ℕ). z ≡ length (take z xs)) (sym e) (sym (length-prefix_len (is_in_word words) xs)) in
    append_assoc out _ _
    ∙ ap (λ (z : ℕ). out ++ record { kind = Word; from = at; to = at + z; line = line } ∷ placed line (at + z) (segments words (drop n xs))) w
    ∙ ap (λ (z : List Segment). out ++ placed line at z) (sym (word_run words xs n e l))

more_by_cases : (inside : Bool) (n m : ℕ) (rest : Bool) → inside && rest ≡ true → (rest ≡ true → n ≡ m) → suc n ≡ cond inside (1 + m) 0
more_by_cases true n m rest e f = omega (arith, f e)
more_by_cases false n m rest e f = absurd cc

run_len : (words : Words) (w rest : List ℕ) → list_all (is_in_word words) w ≡ true → prefix_len (is_in_word words) rest ≡ 0 → length w ≡ prefix_len (is_in_word words) (w ++ rest)
run_len words [] rest e f = sym f
run_len words (b ∷ w) rest e f = more_by_cases (is_in_word words b) (length w) (prefix_len (is_in_word words) (w ++ rest)) (list_all (is_in_word words) w) e (λ g. run_len words w rest g f)

-- bytes of a word, with another one after them, are a word
pub word_whole : (words : Words) (w rest : List ℕ) → list_all (is_in_word words) w ≡ true → 0 < length w → prefix_len (is_in_word words) rest ≡ 0 → segments words (w ++ rest) ≡ token Word w ∷ segments words rest
word_whole words w rest e l f =
    word_run words (w ++ rest) (length w) (run_len words w rest e f) l
    ∙ ap (λ (z : List ℕ). token Word z ∷ segments words (drop (length w) (w ++ rest))) (take_at w rest (length w) refl)
    ∙ ap (λ (z : List ℕ). token Word w ∷ segments words z) (drop_at w rest (length w) refl)
