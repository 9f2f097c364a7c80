-- Words with and without dots.
use Rattle.std.proofs.Common.{◌≡◌, ◌<◌, ◌+◌, ◌==◌, ℕ, suc, Bool, true, false, cond, not, ◌&&◌, List, [], ◌∷◌, length, take, drop, refl, sym, ap, ◌∙◌, subst, arith}
use Rattle.std.specs.List.{list_all, slice_split, onto_first, position_or_len}
use Rattle.std.proofs.lemmas.List.Splits.{slice_split_first}
use Rattle.gadget_text.specs.Names.{is_stem, is_number, is_name, are_name_parts}

-- where no element passes, the list is the one part
one_part : {A : Type 0} (p : A → Bool) (xs : List A) → position_or_len p xs ≡ length xs → slice_split p xs ≡ xs ∷ []
one_part p [] e = refl
one_part {A} p (x ∷ xs) e = by_cases (p x) e (one_part p xs) where
  by_cases : (b : Bool) → cond (not b) (1 + position_or_len p xs) 0 ≡ suc (length xs) → (position_or_len p xs ≡ length xs → slice_split p xs ≡ xs ∷ []) →
      cond b ([] ∷ slice_split p xs) (onto_first x (slice_split p xs)) ≡ (x ∷ xs) ∷ []
  by_cases true f ih = absurd (omega (arith, f))
  by_cases false f ih = ap (onto_first x) (ih (omega (arith, f)))

-- `true` changes nothing
and_true : (b : Bool) → b && true ≡ b
and_true true = refl
and_true false = refl

-- a word without a dot is a name where it is a stem
pub name_is_stem : (word : List ℕ) → length word ≡ position_or_len (λ b. b == 46) word → is_stem word ≡ is_name word
unfolding is_name
name_is_stem word e = sym (ap are_name_parts (one_part (λ b. b == 46) word (sym e)) ∙ and_true (is_stem word))

-- a word with a dot is a name where what stands before it is a stem and what follows are numbers
pub name_is_parts : (word : List ℕ) (dot : ℕ) → dot ≡ position_or_len (λ b. b == 46) word → dot < length word →
    is_name word ≡ is_stem (take dot word) && list_all is_number (slice_split (λ b. b == 46) (drop (dot + 1) word))
unfolding is_name
name_is_parts word dot e l = rw e (ap are_name_parts (slice_split_first (λ b. b == 46) word 0 (subst (λ n. n < length word) e l)))
