-- The token of a header line's front, and the room that its word has.
use Rattle.std.proofs.Common.{◌≡◌, ◌<◌, ◌≤◌, ◌+◌, ℕ, zero, suc, [], ◌∷◌, ◌++◌, Bool, true, false, ◌&&◌, List, cond, length, drop, Option, Some, None, IfSome, refl, sym, ap, ◌∙◌, subst, arith, length-append, append_assoc, nat_eq}
use Rattle.std.specs.List.{starts_with}
use Rattle.std.proofs.lemmas.Bool.Decides.{Decides-eqb}
use Rattle.std.proofs.lemmas.List.{drop_at}
use Rattle.std.proofs.lemmas.Slice.Eq.{starts_is}
use Rattle.gadget_text.specs.declared.token.Header.{Header}
use Rattle.gadget_text.specs.declared.token.Header.TheVariants.{Profile, Shares, In, Randoms, Out}
use Rattle.gadget_text.specs.declared.token.Token.{Token}
use Rattle.gadget_text.specs.declared.token.TokenKind.TheVariants.{Head}
use Rattle.gadget_text.specs.declared.line_kind.LineKind.TheVariants.{HeaderLine, Assignment}
use Rattle.gadget_text.specs.declared.words.Words.TheVariants.{Solid}
use Rattle.gadget_text.specs.Bytes.{is_blank, is_hash}
use Rattle.gadget_text.specs.Lines.{header_word, ends_header, has_header, header_behind, hash_kind, line_kind, before_hash, kept_part}
use Rattle.gadget_text.specs.Segments.{gap, token, segments, header_segments}
use Rattle.gadget_text.specs.Places.{placed}
use Rattle.gadget_text.proofs.Blanks.{blanks}

-- the token of a header, and those after it
abbrev pub header_tokens : ℕ → Header → ℕ → ℕ → List ℕ → List Token
header_tokens line h at to rest = record { kind = Head h; from = at; to = to; line = line } ∷ placed line to (segments Solid rest)

header_by_cases : (blank : Bool) (line from : ℕ) (h : Header) (b : ℕ) (bs : List ℕ) (n at to end : ℕ) → n ≡ cond blank (1 + blanks bs) 0 → n < length (b ∷ bs) →
    at ≡ from + n → to ≡ from + end → end ≡ n + 1 + length (header_word h) →
    ((f m e : ℕ) → m ≡ blanks bs → m < length bs → at ≡ f + m → to ≡ f + e → e ≡ m + 1 + length (header_word h) → placed line f (header_segments h bs) ≡ header_tokens line h at to (drop e bs)) →
    placed line from (cond blank (gap b ∷ header_segments h bs) (token (Head h) (b ∷ header_word h) ∷ segments Solid (drop (length (header_word h)) bs))) ≡ header_tokens line h at to (drop end (b ∷ bs))
header_by_cases blank line from h b bs n at to zero e l p q r ih = absurd (omega (arith, r))
header_by_cases true line from h b bs zero at to (suc end) e l p q r ih = absurd (omega (arith, e))
header_by_cases true line from h b bs (suc n) at to (suc end) e l p q r ih = ih (from + 1) n end (omega (arith, e)) (omega (arith, l)) (omega (arith, p)) (omega (arith, q)) (omega (arith, r))
header_by_cases false line from h b bs zero at to (suc end) e l p q r ih =
    let f : from ≡ at = omega (arith, p) in
    let g : from + suc (length (header_word h)) ≡ to = omega (arith, q, r) in
    let k : length (header_word h) ≡ end = omega (arith, r) in
    ap (λ (z : ℕ). record { kind = Head h; from = z; to = from + suc (length (header_word h)); line = line } ∷ placed line (from + suc (length (header_word h))) (segments Solid (drop (length (header_word h)) bs))) f
    ∙ ap (λ (z : ℕ). header_tokens line h at z (drop (length (header_word h)) bs)) g
    ∙ ap (λ (z : ℕ). header_tokens line h at to (drop z bs)) k
header_by_cases false line from h b bs (suc n) at to (suc end) e l p q r ih = absurd (omega (arith, e))

-- the token of a header stands after the blanks
pub header_placed : (line from : ℕ) (h : Header) (xs : List ℕ) (n at to end : ℕ) → n ≡ blanks xs → n < length xs → at ≡ from + n → to ≡ from + end → end ≡ n + 1 + length (header_word h) →
    placed line from (header_segments h xs) ≡ header_tokens line h at to (drop end xs)
header_placed line from h [] n at to end e l p q r = absurd (omega (arith, l))
header_placed line from h (b ∷ bs) n at to end e l p q r =
    header_by_cases (is_blank b) line from h b bs n at to end e l p q r (λ f m d. header_placed line f h bs m at to d)

-- no header's word has a `#`
word_before : (h : Header) (rest : List ℕ) → before_hash (header_word h ++ rest) ≡ header_word h ++ before_hash rest
word_before Profile rest = refl
word_before Shares rest = refl
word_before In rest = refl
word_before Randoms rest = refl
word_before Out rest = refl

first_true : (a b : Bool) → a && b ≡ true → true ≡ a
first_true true b e = refl
first_true false b e = absurd cc

-- the word of a header stands in front, before the next `#`
abbrev Starts : List ℕ → Header → Type 0
Starts bs h = before_hash bs ≡ header_word h ++ drop (length (header_word h)) (before_hash bs)

word_starts : (h : Header) (bs : List ℕ) → has_header h bs ≡ true → Starts bs h
unfolding has_header
word_starts h bs e =
    let word = header_word h in
    let rest = drop (length word) bs in
    let s : bs ≡ word ++ rest = (starts_is Decides-eqb bs word (starts_with nat_eq bs word) refl).0 (sym (first_true (starts_with nat_eq bs word) (ends_header rest) e)) in
    let k : before_hash bs ≡ word ++ before_hash rest = ap before_hash s ∙ word_before h rest in
    k ∙ ap (λ (z : List ℕ). word ++ z) (sym (ap (drop (length word)) k ∙ drop_at word (before_hash rest) (length word) refl))

some_by_cases : (P : Header → Type 0) (c : Bool) (h : Header) (o : Option Header) → (c ≡ true → P h) → IfSome o P → IfSome (cond c (Some h) o) P
some_by_cases P true h o f g = f refl
some_by_cases P false h o f g = g

-- a header that is found stands there
behind_some : (P : Header → Type 0) (bs : List ℕ) → ((h : Header) → has_header h bs ≡ true → P h) → IfSome (header_behind bs) P
unfolding header_behind
behind_some P bs f =
    some_by_cases P (has_header Profile bs) Profile _ (f Profile)
    (some_by_cases P (has_header Shares bs) Shares _ (f Shares)
    (some_by_cases P (has_header In bs) In _ (f In)
    (some_by_cases P (has_header Randoms bs) Randoms _ (f Randoms)
    (some_by_cases P (has_header Out bs) Out None (f Out) tt))))

found_some : (P : Header → Type 0) (o : Option Header) (h : Header) → IfSome o P → hash_kind o ≡ HeaderLine h → P h
found_some P None h f e = absurd cc
found_some P (Some g) h f e = let s : g ≡ h = cc in subst P s f

-- the word of a header line stands after its `#`, before the next one
pub header_starts : (h : Header) (bs : List ℕ) → hash_kind (header_behind bs) ≡ HeaderLine h → Starts bs h
header_starts h bs e = found_some (Starts bs) (header_behind bs) h (behind_some (Starts bs) bs (λ g. word_starts g bs)) e

-- the room that the front of a header line has
abbrev HasRoom : Header → List ℕ → Type 0
HasRoom h kept = blanks kept + 1 + length (header_word h) ≤ length kept

solid_room : (hash : Bool) (h : Header) (bs : List ℕ) → cond hash (hash_kind (header_behind bs)) Assignment ≡ HeaderLine h → length (header_word h) ≤ length (before_hash bs)
solid_room true h bs e = omega (arith, ap length (header_starts h bs e), length-append (header_word h) (drop (length (header_word h)) (before_hash bs)))
solid_room false h bs e = absurd cc

room_by_cases : (blank : Bool) (h : Header) (b : ℕ) (bs : List ℕ) → is_blank b ≡ blank → cond blank (line_kind bs) (cond (is_hash b) (hash_kind (header_behind bs)) Assignment) ≡ HeaderLine h →
    (line_kind bs ≡ HeaderLine h → HasRoom h (kept_part bs)) → HasRoom h (b ∷ cond blank (kept_part bs) (before_hash bs))
room_by_cases true h b bs f e ih =
    let n : blanks (b ∷ kept_part bs) ≡ 1 + blanks (kept_part bs) = ap (λ (z : Bool). cond z (1 + blanks (kept_part bs)) 0) f in
    omega (arith, n, ih e)
room_by_cases false h b bs f e ih =
    let n : blanks (b ∷ before_hash bs) ≡ 0 = ap (λ (z : Bool). cond z (1 + blanks (before_hash bs)) 0) f in
    omega (arith, n, solid_room (is_hash b) h bs e)

-- the kept part of a header line has the blanks, `#` and the word
pub header_room : (h : Header) (line : List ℕ) → line_kind line ≡ HeaderLine h → HasRoom h (kept_part line)
header_room h [] e = absurd cc
header_room h (b ∷ bs) e = room_by_cases (is_blank b) h b bs refl e (header_room h bs)

-- the token of a header is added, and then those after it
pub header_added : (line from : ℕ) (h : Header) (xs rest : List ℕ) (n at to end : ℕ) (old new : List Token) → n ≡ blanks xs → n < length xs → at ≡ from + n → to ≡ from + end → end ≡ n + 1 + length (header_word h) →
    rest ≡ drop end xs → new ≡ old ++ record { kind = Head h; from = at; to = to; line = line } ∷ [] →
    new ++ placed line to (segments Solid rest) ≡ old ++ placed line from (header_segments h xs)
header_added line from h xs rest n at to end old new e l p q r f g =
    ap (λ (z : List ℕ). new ++ placed line to (segments Solid z)) f
    ∙ ap (λ (z : List Token). z ++ placed line to (segments Solid (drop end xs))) g
    ∙ append_assoc old _ _
    ∙ ap (λ (z : List Token). old ++ z) (sym (header_placed line from h xs n at to end e l p q r))
