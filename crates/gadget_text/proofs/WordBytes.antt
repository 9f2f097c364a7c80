-- Words, stems and names by their bytes.
use Rattle.std.proofs.Common.{◌≡◌, ◌≢◌, ◌<◌, ◌≤◌, ◌==◌, ℕ, Bool, true, false, ◌&&◌, ◌||◌, IsTrue, List, [], ◌∷◌, ◌++◌, length, refl, sym, ap, ◌∙◌, subst, inl, inr, eqb-true, arith, nat_le, length-append}
use Rattle.std.specs.List.{AllByRecursion, list_all, join_with_byte}
use Rattle.std.specs.Int.{is_in_range}
use Rattle.std.specs.Char.{is_ascii_alphanumeric, is_ascii_digit}
use Rattle.std.proofs.lemmas.Bool.{and_parts, and_from, or_cases, or_right, leb-true}
use Rattle.std.proofs.lemmas.List.Folds.{list_all-append}
use Rattle.gadget_text.specs.Bytes.{is_name_byte}
use Rattle.gadget_text.specs.Names.{starts_stem, continues_stem, is_stem, is_number, is_name, IsStemWithNumbers}
use Rattle.gadget_text.proofs.NameParts.{stem_bytes, names_by_parts}

-- a byte that is no control byte
pub record IsPrinted (b : ℕ) : Type 0 where
  pub low : 32 ≤ b
  pub high : b ≤ 126

-- a byte that is printed, and no `#`
pub record IsPlain (b : ℕ) : Type 0 where
  pub printed : IsPrinted b
  pub other : b ≢ 35

-- a byte that is printed, and no blank and no `#`
pub record IsSolid (b : ℕ) : Type 0 where
  pub low : 36 ≤ b
  pub high : b ≤ 126

-- a word of such bytes
pub record IsWord (w : List ℕ) : Type 0 where
  pub some : 0 < length w
  pub solid : AllByRecursion IsSolid w

-- a name, and its bytes
pub record IsNamed (w : List ℕ) : Type 0 where
  pub name : IsTrue (is_name w)
  pub some : 0 < length w
  pub letters : list_all is_name_byte w ≡ true

-- what is true of each byte that passes a test is true of each of a list
pub each_passes : (p : ℕ → Bool) (P : ℕ → Type 0) → ((b : ℕ) → p b ≡ true → P b) → (w : List ℕ) → list_all p w ≡ true → AllByRecursion P w
each_passes p P f [] e = tt
each_passes p P f (b ∷ w) e = let h = and_parts (p b) (list_all p w) e in (f b h.0, each_passes p P f w h.1)

-- what is true of each element of a list, where it follows from another fact
pub each_weaker : {A : Type 0} (P Q : A → Type 0) → ((x : A) → P x → Q x) → (xs : List A) → AllByRecursion P xs → AllByRecursion Q xs
each_weaker P Q f [] h = tt
each_weaker P Q f (x ∷ xs) h = (f x h.0, each_weaker P Q f xs h.1)

-- what is true of each element of two lists is true of each of both
pub each_append : {A : Type 0} (P : A → Type 0) (xs ys : List A) → AllByRecursion P xs → AllByRecursion P ys → AllByRecursion P (xs ++ ys)
each_append P [] ys h k = k
each_append P (x ∷ xs) ys h k = (h.0, each_append P xs ys h.1 k)

-- tests of bytes where one implies the other
pub all_pass : (p q : ℕ → Bool) → ((b : ℕ) → p b ≡ true → q b ≡ true) → (w : List ℕ) → list_all p w ≡ true → list_all q w ≡ true
all_pass p q f [] e = refl
all_pass p q f (b ∷ w) e = let h = and_parts (p b) (list_all p w) e in and_from (q b) (list_all q w) (f b h.0) (all_pass p q f w h.1)

-- a name byte, by the tests that it consists of
range_solid : (low high b : ℕ) → 36 ≤ low → high ≤ 126 → is_in_range low high b ≡ true → IsSolid b
range_solid low high b l h e =
    let both = and_parts (nat_le low b) (nat_le b high) e in
    record { low = omega (arith, leb-true low b both.0); high = omega (arith, leb-true b high both.1) }

-- a byte of a name is solid
pub name_byte_solid : (b : ℕ) → is_name_byte b ≡ true → IsSolid b
name_byte_solid b e = elim (or_cases (is_ascii_alphanumeric b || b == 95) (b == 46) e) [
  | inl f ↦ elim (or_cases (is_ascii_alphanumeric b) (b == 95) f) [
    | inl g ↦ elim (or_cases (is_in_range 48 57 b || is_in_range 65 90 b) (is_in_range 97 122 b) g) [
      | inl h ↦ elim (or_cases (is_in_range 48 57 b) (is_in_range 65 90 b) h) [
        | inl k ↦ range_solid 48 57 b (omega arith) (omega arith) k
        | inr k ↦ range_solid 65 90 b (omega arith) (omega arith) k
      ]
      | inr h ↦ range_solid 97 122 b (omega arith) (omega arith) h
    ]
    | inr g ↦ record { low = omega (arith, eqb-true b 95 g); high = omega (arith, eqb-true b 95 g) }
  ]
  | inr f ↦ record { low = omega (arith, eqb-true b 46 f); high = omega (arith, eqb-true b 46 f) }
]

-- a letter or `_` or a digit is a byte of names, whichever test it passes
name_by_cases : (upper lower line digit dot : Bool) → ((upper || lower) || line) || digit ≡ true → (((digit || upper) || lower) || line) || dot ≡ true
name_by_cases true lower line true dot e = refl
name_by_cases true lower line false dot e = refl
name_by_cases false true line true dot e = refl
name_by_cases false true line false dot e = refl
name_by_cases false false true true dot e = refl
name_by_cases false false true false dot e = refl
name_by_cases false false false true dot e = refl
name_by_cases false false false false dot e = absurd cc

continues_letter : (b : ℕ) → continues_stem b ≡ true → is_name_byte b ≡ true
continues_letter b e = name_by_cases (is_in_range 65 90 b) (is_in_range 97 122 b) (b == 95) (is_ascii_digit b) (b == 46) e

-- a digit goes on with a stem
pub digit_continues : (b : ℕ) → is_ascii_digit b ≡ true → continues_stem b ≡ true
digit_continues b e = or_right (starts_stem b) (is_ascii_digit b) e

-- a digit is a byte of names
pub digit_letter : (b : ℕ) → is_ascii_digit b ≡ true → is_name_byte b ≡ true
digit_letter b e = continues_letter b (digit_continues b e)

stem_some : (stem : List ℕ) → is_stem stem ≡ true → 0 < length stem
stem_some [] e = absurd cc
stem_some (b ∷ bs) e = omega arith

number_letters : (w : List ℕ) → is_number w ≡ true → list_all is_name_byte w ≡ true
number_letters [] e = refl
number_letters (b ∷ bs) e = all_pass is_ascii_digit is_name_byte digit_letter (b ∷ bs) e

numbers_letters : (numbers : List (List ℕ)) → list_all is_number numbers ≡ true → list_all (list_all is_name_byte) numbers ≡ true
numbers_letters [] e = refl
numbers_letters (w ∷ numbers) e =
    let h = and_parts (is_number w) (list_all is_number numbers) e in
    and_from (list_all is_name_byte w) (list_all (list_all is_name_byte) numbers) (number_letters w h.0) (numbers_letters numbers h.1)

-- words joined by a byte have bytes that pass, where theirs do and the byte does
pub joined_pass : (p : ℕ → Bool) (c : ℕ) → p c ≡ true → (ws : List (List ℕ)) → list_all (list_all p) ws ≡ true → list_all p (join_with_byte c ws) ≡ true
joined_pass p c e [] f = refl
joined_pass p c e (w ∷ []) f = (and_parts (list_all p w) true f).0
joined_pass p c e (w ∷ v ∷ ws) f =
    let h = and_parts (list_all p w) (list_all (list_all p) (v ∷ ws)) f in
    list_all-append p w (c ∷ join_with_byte c (v ∷ ws))
    ∙ and_from (list_all p w) (p c && list_all p (join_with_byte c (v ∷ ws))) h.0
    (and_from (p c) (list_all p (join_with_byte c (v ∷ ws))) e (joined_pass p c e (v ∷ ws) h.1))

-- a joined word is not empty where its first part isn't
joined_some : (c : ℕ) (w : List ℕ) (ws : List (List ℕ)) → 0 < length w → 0 < length (join_with_byte c (w ∷ ws))
joined_some c w [] l = l
joined_some c w (v ∷ ws) l = omega (arith, length-append w (c ∷ join_with_byte c (v ∷ ws)))

named_by_parts : (w stem : List ℕ) (numbers : List (List ℕ)) → IsTrue (is_name w) → IsStemWithNumbers w stem numbers → IsNamed w
named_by_parts w stem numbers n h =
    let s = stem_bytes stem h.is_stem in
    let letters = and_from (list_all is_name_byte stem) (list_all (list_all is_name_byte) numbers) (all_pass continues_stem is_name_byte continues_letter stem s) (numbers_letters numbers h.are_numbers) in
    record {
      name = n;
      some = subst (λ z. 0 < length z) (sym h.is_word) (joined_some 46 stem numbers (stem_some stem h.is_stem));
      letters = ap (list_all is_name_byte) h.is_word ∙ joined_pass is_name_byte 46 refl (stem ∷ numbers) letters;
    }

-- a name has a name's bytes
pub IsNamed-from_name : (w : List ℕ) → IsTrue (is_name w) → IsNamed w
IsNamed-from_name w n = let h = (names_by_parts w).0 n in named_by_parts w h.0 h.1 n h.2

-- a stem is a name
pub IsNamed-from_stem : (w : List ℕ) → IsTrue (is_stem w) → IsNamed w
IsNamed-from_stem w s = IsNamed-from_name w ((names_by_parts w).1 (w, [], record { is_stem = s; are_numbers = refl; is_word = refl }))

-- the bytes of a name are a word's
pub IsWord-from_named : (w : List ℕ) → IsNamed w → IsWord w
IsWord-from_named w h = record { some = h.some; solid = each_passes is_name_byte IsSolid name_byte_solid w h.letters }
