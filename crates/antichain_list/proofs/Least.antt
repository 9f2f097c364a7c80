-- The least number that stands in both of two lists, as the second is gone through.
use Rattle.std.proofs.Common.{ℕ, ◌+◌, ◌<◌, ◌≤◌, List, [], ◌∷◌, ◌++◌, Option, Some, None, length, take, take_all, get_or, sym, inl, inr, arith, subst, Contains}
use Rattle.std.proofs.lemmas.List.{take_more}
use Rattle.std.proofs.lemmas.List.Elements.{Contains-push, Contains-push_cases, Contains-append_left}
use Rattle.antichain_list.specs.Held.{IsLeastOfBoth, IsLower}

-- one number more, which does not stand in the first list
skip : (xs ys : List ℕ) (n : ℕ) (o : Option ℕ) → IsLeastOfBoth xs ys o → (Contains xs n → ⊥) → IsLeastOfBoth xs (ys ++ n ∷ []) o
skip xs ys n None h other = λ m k l. elim (Contains-push_cases ys n m l) [
  | inl before ↦ h m k before
  | inr same ↦ other (subst (Contains xs) (sym same) k)
]
skip xs ys n (Some least) h other = (
  h.0,
  Contains-append_left ys (n ∷ []) least h.1,
  λ m k l. elim (Contains-push_cases ys n m l) [
    | inl before ↦ h.2 m k before
    | inr same ↦ absurd (other (subst (Contains xs) (sym same) k))
  ],
)

-- which is no lower than the least so far
higher : (xs ys : List ℕ) (n : ℕ) (o : Option ℕ) → IsLeastOfBoth xs ys o → (IsLower n o → ⊥) → IsLeastOfBoth xs (ys ++ n ∷ []) o
higher xs ys n None h up = absurd (up tt)
higher xs ys n (Some least) h up = (
  h.0,
  Contains-append_left ys (n ∷ []) least h.1,
  λ m k l. elim (Contains-push_cases ys n m l) [ inl before ↦ h.2 m k before | inr same ↦ omega arith ],
)

-- which is lower and stands in the first list
lower : (xs ys : List ℕ) (n : ℕ) (o : Option ℕ) → IsLeastOfBoth xs ys o → IsLower n o → Contains xs n → IsLeastOfBoth xs (ys ++ n ∷ []) (Some n)
lower xs ys n None h down here = (
  here,
  Contains-push ys n,
  λ m k l. elim (Contains-push_cases ys n m l) [ inl before ↦ absurd (h m k before) | inr same ↦ omega arith ],
)
lower xs ys n (Some least) h down here = (
  here,
  Contains-push ys n,
  λ m k l. elim (Contains-push_cases ys n m l) [ inl before ↦ let i = h.2 m k before in omega arith | inr same ↦ omega arith ],
)

-- the same for the number at a place
module _ (xs ys : List ℕ) (i : ℕ) (o : Option ℕ) (within : i < length ys) (h : IsLeastOfBoth xs (take i ys) o) where
  one_more : (p : Option ℕ) → IsLeastOfBoth xs (take i ys ++ get_or ys i 0 ∷ []) p → IsLeastOfBoth xs (take (i + 1) ys) p
  one_more p k = let P : List ℕ → Type 0 = λ zs. IsLeastOfBoth xs zs p in subst P (sym (take_more ys i 0 within)) k

  pub IsLeastOfBoth-skip : (Contains xs (get_or ys i 0) → ⊥) → IsLeastOfBoth xs (take (i + 1) ys) o
  IsLeastOfBoth-skip other = one_more o (skip xs (take i ys) (get_or ys i 0) o h other)

  pub IsLeastOfBoth-higher : (IsLower (get_or ys i 0) o → ⊥) → IsLeastOfBoth xs (take (i + 1) ys) o
  IsLeastOfBoth-higher up = one_more o (higher xs (take i ys) (get_or ys i 0) o h up)

  pub IsLeastOfBoth-lower : IsLower (get_or ys i 0) o → Contains xs (get_or ys i 0) → IsLeastOfBoth xs (take (i + 1) ys) (Some (get_or ys i 0))
  IsLeastOfBoth-lower down here = one_more (Some (get_or ys i 0)) (lower xs (take i ys) (get_or ys i 0) o h down here)

pub IsLeastOfBoth-all : (xs ys : List ℕ) (i : ℕ) (o : Option ℕ) → length ys ≤ i → IsLeastOfBoth xs (take i ys) o → IsLeastOfBoth xs ys o
IsLeastOfBoth-all xs ys i o l h = let P : List ℕ → Type 0 = λ zs. IsLeastOfBoth xs zs o in subst P (take_all i ys l) h
