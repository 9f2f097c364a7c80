-- Whether the items of one tuple are all among those of another, found by going through the second one once.
use Rattle.std.proofs.Common.{◌≡◌, ◌↔◌, ℕ, zero, suc, ◌+◌, ◌<◌, ◌≤◌, List, [], ◌∷◌, length, drop, get_or, sym, inl, inr, arith, subst, Contains}
use Rattle.std.proofs.lemmas.List.{drop_more, drop_all}
use Rattle.std.proofs.lemmas.Bool.{cases_lt}
use Rattle.tuple_model.specs.Tuples.{IsRising, IsSubset}
use Rattle.tuple_model.proofs.Rising.{IsRising-from_higher, IsRising-member}
use Rattle.list_laws.proofs.Members.{Contains-cons_head, Contains-cons_tail, Contains-cons_cases}
use Rattle.list_laws.proofs.Once.{Contains-nil}

IsRising-drop : (i high : ℕ) (t : List ℕ) → IsRising 0 high t → IsRising 0 high (drop i t)
IsRising-drop zero high t h = h
IsRising-drop (suc i) high [] h = tt
IsRising-drop (suc i) high (x ∷ t) h = IsRising-drop i high t (IsRising-from_higher 0 (suc x) high t (omega arith) h.2)

IsSubset-both : (x high : ℕ) (s t : List ℕ) → IsRising (suc x) high s → IsSubset (x ∷ s) (x ∷ t) ↔ IsSubset s t
IsSubset-both x high s t g = (
  λ h item k. elim (Contains-cons_cases x t item (h item (Contains-cons_tail x s item k))) [
    | inl e ↦ let r = IsRising-member (suc x) high s item g k in absurd (omega arith)
    | inr l ↦ l
  ],
  λ h item k. elim (Contains-cons_cases x s item k) [
    | inl e ↦ subst (Contains (x ∷ t)) e (Contains-cons_head x t)
    | inr l ↦ Contains-cons_tail x t item (h item l)
  ],
)

IsSubset-skip : (x y high : ℕ) (s t : List ℕ) → IsRising (suc x) high s → IsRising (suc y) high t → (x ≡ y → ⊥) →
    IsSubset (x ∷ s) (y ∷ t) ↔ IsSubset (x ∷ s) t
IsSubset-skip x y high s t g h n = (
  λ k item l.
      let first : Contains t x = elim (Contains-cons_cases y t x (k x (Contains-cons_head x s))) [ inl e ↦ absurd (n (sym e)) | inr m ↦ m ] in
      let above = (IsRising-member (suc y) high t x h first).0 in
      elim (Contains-cons_cases y t item (k item l)) [
        | inl e ↦ elim (Contains-cons_cases x s item l) [
          | inl f ↦ absurd (omega arith)
          | inr m ↦ let r = IsRising-member (suc x) high s item g m in absurd (omega arith)
        ]
        | inr m ↦ m
      ],
  λ k item l. Contains-cons_tail y t item (k item l),
)

IsSubset-nil : (t : List ℕ) → IsSubset [] t
IsSubset-nil t item h = absurd (Contains-nil item h)

-- what is left to find after the first items of both
pub record Left (a b : List ℕ) (found i : ℕ) : Type 0 where
  pub few : found ≤ length a
  pub same : IsSubset a b ↔ IsSubset (drop found a) (drop i b)

module _ (high : ℕ) (a b : List ℕ) (found i : ℕ) (g : IsRising 0 high a) (h : IsRising 0 high b) (left : Left a b found i) (l : i < length b) where
  b_rest : drop i b ≡ get_or b i 0 ∷ drop (i + 1) b
  b_rest = drop_more b i 0 l

  b_rises : IsRising (suc (get_or b i 0)) high (drop (i + 1) b)
  b_rises = (subst (IsRising 0 high) b_rest (IsRising-drop i high b h)).2

  module _ (m : found < length a) where
    a_rest : drop found a ≡ get_or a found 0 ∷ drop (found + 1) a
    a_rest = drop_more a found 0 m

    a_rises : IsRising (suc (get_or a found 0)) high (drop (found + 1) a)
    a_rises = (subst (IsRising 0 high) a_rest (IsRising-drop found high a g)).2

    pub Left-found : get_or a found 0 ≡ get_or b i 0 → Left a b (found + 1) (i + 1)
    Left-found e =
        let P : List ℕ → Type 0 = λ s. IsSubset a b ↔ IsSubset s (drop i b) in
        let Q : List ℕ → Type 0 = λ t. IsSubset a b ↔ IsSubset (get_or a found 0 ∷ drop (found + 1) a) t in
        let R : ℕ → Type 0 = λ y. IsSubset a b ↔ IsSubset (get_or a found 0 ∷ drop (found + 1) a) (y ∷ drop (i + 1) b) in
        let same = subst R (sym e) (subst Q b_rest (subst P a_rest left.same)) in
        let both = IsSubset-both (get_or a found 0) high (drop (found + 1) a) (drop (i + 1) b) a_rises in
        record { few = omega arith; same = (λ s. both.0 (same.0 s), λ s. same.1 (both.1 s)) }

    pub Left-other : (get_or a found 0 ≡ get_or b i 0 → ⊥) → Left a b found (i + 1)
    Left-other n =
        let P : List ℕ → Type 0 = λ s. IsSubset a b ↔ IsSubset s (drop i b) in
        let Q : List ℕ → Type 0 = λ t. IsSubset a b ↔ IsSubset (get_or a found 0 ∷ drop (found + 1) a) t in
        let same = subst Q b_rest (subst P a_rest left.same) in
        let skip = IsSubset-skip (get_or a found 0) (get_or b i 0) high (drop (found + 1) a) (drop (i + 1) b) a_rises b_rises n in
        let S : List ℕ → Type 0 = λ s. IsSubset a b ↔ IsSubset s (drop (i + 1) b) in
        let both : IsSubset a b ↔ IsSubset (get_or a found 0 ∷ drop (found + 1) a) (drop (i + 1) b) = (λ s. skip.0 (same.0 s), λ s. same.1 (skip.1 s)) in
        record { few = left.few; same = subst S (sym a_rest) both }

  pub Left-all : length a ≤ found → Left a b found (i + 1)
  Left-all most =
      let none = drop_all found a most in
      let P : List ℕ → Type 0 = λ s. IsSubset a b ↔ IsSubset s (drop i b) in
      let S : List ℕ → Type 0 = λ s. IsSubset a b ↔ IsSubset s (drop (i + 1) b) in
      let same = subst P none left.same in
      let both : IsSubset a b ↔ IsSubset [] (drop (i + 1) b) = (λ s. IsSubset-nil (drop (i + 1) b), λ s. same.1 (IsSubset-nil (drop i b))) in
      record { few = left.few; same = subst S (sym none) both }

-- at the end all items of the first tuple are found, or one is missing
pub Left-done : (a b : List ℕ) (found i : ℕ) → Left a b found i → length b ≤ i → (found ≡ length a) ↔ IsSubset a b
Left-done a b found i left l =
    let P : List ℕ → Type 0 = λ t. IsSubset a b ↔ IsSubset (drop found a) t in
    let same = subst P (drop_all i b l) left.same in
    let Q : List ℕ → Type 0 = λ s. IsSubset a b ↔ IsSubset s [] in (
      λ e. (subst Q (drop_all found a (omega arith)) same).1 (IsSubset-nil []),
      λ s. elim (cases_lt found (length a)) [
        | inl less ↦
            let rest = (subst Q (drop_more a found 0 less) same).0 s in
            absurd (Contains-nil (get_or a found 0) (rest (get_or a found 0) (Contains-cons_head (get_or a found 0) (drop (found + 1) a))))
        | inr most ↦ let few = left.few in omega arith
      ],
    )
