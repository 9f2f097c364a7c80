-- A name is a stem, and then numbers with a dot in front of each.
use Rattle.std.proofs.Common.{◌≡◌, ◌↔◌, ◌==◌, ℕ, Bool, true, false, cond, eqb, eqb-true, ◌&&◌, ◌||◌, IsTrue, List, [], ◌∷◌, ◌++◌, refl, sym, ap, ◌∙◌}
use Rattle.std.specs.List.{list_all, slice_split, onto_first, join_with_byte}
use Rattle.std.specs.Char.{is_ascii_digit}
use Rattle.std.proofs.lemmas.List.Splits.{join_with_byte-slice_split}
use Rattle.gadget_text.specs.Names.{starts_stem, continues_stem, is_stem, is_number, is_name, are_name_parts, IsStemWithNumbers}

-- both tests pass
both : (a b : Bool) → a && b ≡ true → (a ≡ true) × (b ≡ true)
both true b e = (refl, e)
both false b e = absurd cc

-- a byte that passes a test which a dot does not pass is no dot
is_no_dot : (p : ℕ → Bool) → p 46 ≡ false → (b : ℕ) → p b ≡ true → eqb b 46 ≡ false
is_no_dot p dot b e = by_cases (eqb b 46) refl where
  by_cases : (t : Bool) → eqb b 46 ≡ t → t ≡ false
  by_cases true f = let same : b ≡ 46 = eqb-true b 46 f in absurd (let g : true ≡ false = sym e ∙ ap p same ∙ dot in cc)
  by_cases false f = refl

-- a word without dots, in front of a dot or at the end, is a part
split_part : (p : ℕ → Bool) → p 46 ≡ false → (w : List ℕ) → list_all p w ≡ true → (rest : List ℕ) →
    (slice_split (λ b. b == 46) w ≡ w ∷ []) × (slice_split (λ b. b == 46) (w ++ 46 ∷ rest) ≡ w ∷ slice_split (λ b. b == 46) rest)
split_part p dot [] e rest = (refl, refl)
split_part p dot (b ∷ w) e rest =
    let h = both (p b) (list_all p w) e in
    let n = is_no_dot p dot b h.0 in
    let ih = split_part p dot w h.1 rest in (
      ap (λ (t : Bool). cond t ([] ∷ slice_split (λ c. c == 46) w) (onto_first b (slice_split (λ c. c == 46) w))) n ∙ ap (onto_first b) ih.0,
      ap (λ (t : Bool). cond t ([] ∷ slice_split (λ c. c == 46) (w ++ 46 ∷ rest)) (onto_first b (slice_split (λ c. c == 46) (w ++ 46 ∷ rest)))) n ∙ ap (onto_first b) ih.1,
    )

-- numbers with dots between are split at the dots
split_numbers : (p : ℕ → Bool) → p 46 ≡ false → (w : List ℕ) → list_all p w ≡ true → (numbers : List (List ℕ)) → list_all is_number numbers ≡ true →
    slice_split (λ b. b == 46) (join_with_byte 46 (w ∷ numbers)) ≡ w ∷ numbers
split_numbers p dot w e [] f = (split_part p dot w e []).0
split_numbers p dot w e ([] ∷ numbers) f = absurd cc
split_numbers p dot w e ((b ∷ number) ∷ numbers) f =
    let h = both (is_number (b ∷ number)) (list_all is_number numbers) f in
    (split_part p dot w e (join_with_byte 46 ((b ∷ number) ∷ numbers))).1
    ∙ ap (λ (z : List (List ℕ)). w ∷ z) (split_numbers is_ascii_digit refl (b ∷ number) h.0 numbers h.1)

-- the bytes of a stem
pub stem_bytes : (stem : List ℕ) → is_stem stem ≡ true → list_all continues_stem stem ≡ true
stem_bytes [] e = absurd cc
stem_bytes (b ∷ bs) e =
    let h = both (starts_stem b) (list_all continues_stem bs) e in
    ap (λ (t : Bool). (t || is_ascii_digit b) && list_all continues_stem bs) h.0 ∙ h.1

-- the parts of a word that are those of a name
parts_of_name : (word : List ℕ) (parts : List (List ℕ)) → join_with_byte 46 parts ≡ word → are_name_parts parts ≡ true → (stem : List ℕ) × (numbers : List (List ℕ)) × IsStemWithNumbers word stem numbers
parts_of_name word [] e f = absurd cc
parts_of_name word (stem ∷ numbers) e f =
    let h = both (is_stem stem) (list_all is_number numbers) f in
    (stem, numbers, record { is_stem = h.0; are_numbers = h.1; is_word = sym e })

-- a name has a stem and numbers
name_has_parts : (word : List ℕ) → IsTrue (is_name word) → (stem : List ℕ) × (numbers : List (List ℕ)) × IsStemWithNumbers word stem numbers
unfolding is_name
name_has_parts word h = parts_of_name word (slice_split (λ b. b == 46) word) (join_with_byte-slice_split 46 word) h

-- a stem and numbers are a name
parts_are_name : (word stem : List ℕ) (numbers : List (List ℕ)) → IsStemWithNumbers word stem numbers → IsTrue (is_name word)
unfolding is_name
parts_are_name word stem numbers h =
    ap (λ (z : List ℕ). are_name_parts (slice_split (λ b. b == 46) z)) h.is_word
    ∙ ap are_name_parts (split_numbers continues_stem refl stem (stem_bytes stem h.is_stem) numbers h.are_numbers)
    ∙ ap (λ (t : Bool). t && list_all is_number numbers) h.is_stem ∙ h.are_numbers

-- both ways
pub names_by_parts : (word : List ℕ) → IsTrue (is_name word) ↔ ((stem : List ℕ) × (numbers : List (List ℕ)) × IsStemWithNumbers word stem numbers)
names_by_parts word = (name_has_parts word, λ h. parts_are_name word h.0 h.1 h.2)
