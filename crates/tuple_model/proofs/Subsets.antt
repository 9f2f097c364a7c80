-- The subsets of a tuple by number: each is a tuple of items of the first, and each tuple of such items is one of them.
use Rattle.std.proofs.Common.{◌≡◌, ℕ, suc, ◌+◌, ◌*◌, ◌/◌, ◌%◌, ◌^◌, ◌<◌, ◌≤◌, ◌⊎◌, cond, eqb, List, [], ◌∷◌, length, refl, ap, sym, ◌∙◌, inl, inr, arith, subst, Contains, pow-suc, pow_pos}
use Rattle.std.proofs.lemmas.Bool.{cases_lt}
use Rattle.tuple_model.specs.Tuples.{IsRising, IsTuple, subset}
use Rattle.list_laws.proofs.Members.{Contains-cons_head, Contains-cons_tail, Contains-cons_cases}
use Rattle.tuple_model.proofs.Rising.{IsRising-from_higher, IsRising-member}

even_or_odd : (k : ℕ) → (k % 2 ≡ 0) ⊎ (k % 2 ≡ 1)
even_or_odd k = elim (cases_lt (k % 2) 1) [ inl less ↦ inl (omega arith) | inr most ↦ inr (omega arith) ]

pub subset-odd : (k a : ℕ) (t : List ℕ) → k % 2 ≡ 1 → subset k (a ∷ t) ≡ a ∷ subset (k / 2) t
subset-odd k a t e = ap (λ (n : ℕ). cond (eqb n 1) (a ∷ subset (k / 2) t) (subset (k / 2) t)) e

pub subset-even : (k a : ℕ) (t : List ℕ) → k % 2 ≡ 0 → subset k (a ∷ t) ≡ subset (k / 2) t
subset-even k a t e = ap (λ (n : ℕ). cond (eqb n 1) (a ∷ subset (k / 2) t) (subset (k / 2) t)) e

pub subset-zero : (t : List ℕ) → subset 0 t ≡ []
subset-zero [] = refl
subset-zero (a ∷ t) = subset-zero t

pub length-subset : (k : ℕ) (t : List ℕ) → length (subset k t) ≤ length t
length-subset k [] = omega arith
length-subset k (a ∷ t) =
    let i = length-subset (k / 2) t in
    elim (even_or_odd k) [
      | inl even ↦ let e = ap (λ (s : List ℕ). length s) (subset-even k a t even) in omega arith
      | inr odd ↦ let e = ap (λ (s : List ℕ). length s) (subset-odd k a t odd) in omega arith
    ]

pub IsRising-subset : (k low high : ℕ) (t : List ℕ) → IsRising low high t → IsRising low high (subset k t)
IsRising-subset k low high [] h = tt
IsRising-subset k low high (a ∷ t) h =
    let i = IsRising-subset (k / 2) (suc a) high t h.2 in
    elim (even_or_odd k) [
      | inl even ↦ subst (IsRising low high) (sym (subset-even k a t even)) (IsRising-from_higher low (suc a) high (subset (k / 2) t) (omega arith) i)
      | inr odd ↦ subst (IsRising low high) (sym (subset-odd k a t odd)) (h.0, h.1, i)
    ]

pub IsTuple-subset : (items size k : ℕ) (t : List ℕ) → IsTuple items size t → IsTuple items size (subset k t)
IsTuple-subset items size k t h = let l = length-subset k t in record { short = omega arith; rising = IsRising-subset k 0 items t h.rising }

pub member-from_subset : (k : ℕ) (t : List ℕ) (i : ℕ) → Contains (subset k t) i → Contains t i
member-from_subset k [] i h = h
member-from_subset k (a ∷ t) i h =
    let P : List ℕ → Type 0 = λ s. Contains s i in
    elim (even_or_odd k) [
      | inl even ↦ Contains-cons_tail a t i (member-from_subset (k / 2) t i (subst P (subset-even k a t even) h))
      | inr odd ↦ elim (Contains-cons_cases a (subset (k / 2) t) i (subst P (subset-odd k a t odd) h)) [
        | inl e ↦ subst (Contains (a ∷ t)) e (Contains-cons_head a t)
        | inr l ↦ Contains-cons_tail a t i (member-from_subset (k / 2) t i l)
      ]
    ]

pub subset-whole : (k : ℕ) (t : List ℕ) → suc k ≡ 2 ^ length t → subset k t ≡ t
subset-whole k [] e = refl
subset-whole k (a ∷ t) e =
    let p = pow-suc 2 (length t) in
    let odd : k % 2 ≡ 1 = omega arith in
    subset-odd k a t odd ∙ ap (λ (s : List ℕ). a ∷ s) (subset-whole (k / 2) t (omega arith))

pub subset-proper : (k : ℕ) (t : List ℕ) → suc k < 2 ^ length t → length (subset k t) < length t
subset-proper k [] l = absurd (omega arith)
subset-proper k (a ∷ t) l =
    let p = pow-suc 2 (length t) in
    elim (even_or_odd k) [
      | inl even ↦
          let e = ap (λ (s : List ℕ). length s) (subset-even k a t even) in
          let m = length-subset (k / 2) t in
          omega arith
      | inr odd ↦
          let e = ap (λ (s : List ℕ). length s) (subset-odd k a t odd) in
          let i = subset-proper (k / 2) t (omega arith) in
          omega arith
    ]

-- a list of items that all stand in the second, and of which the lowest item of the second is none, has all its items in the rest of the second
rest_has : (a : ℕ) (t s : List ℕ) → ((i : ℕ) → Contains s i → a < i) → ((i : ℕ) → Contains s i → Contains (a ∷ t) i) → (i : ℕ) → Contains s i → Contains t i
rest_has a t s above has i k = elim (Contains-cons_cases a t i (has i k)) [
  | inl e ↦ let l = above i k in absurd (omega arith)
  | inr l ↦ l
]

pub subset-from_members : (low high : ℕ) (t s : List ℕ) → IsRising low high t → IsRising low high s → ((i : ℕ) → Contains s i → Contains t i) →
    (k : ℕ) × (k < 2 ^ length t) × (subset k t ≡ s)
subset-from_members low high [] [] g h has = (0, omega arith, refl)
subset-from_members low high [] (x ∷ s) g h has = let n = (has x (Contains-cons_head x s)).1 in absurd (omega arith)
subset-from_members low high (a ∷ t) [] g h has = let p : 0 < 2 ^ length (a ∷ t) = pow_pos (suc (length t)) in (0, p, subset-zero t)
subset-from_members low high (a ∷ t) (x ∷ s) g h has =
    let p = pow-suc 2 (length t) in
    elim (cases_lt a x) [
      | inl less ↦
          let above : (i : ℕ) → Contains (x ∷ s) i → a < i = λ i k. let r = IsRising-member x high (x ∷ s) i (omega arith, h.1, h.2) k in omega arith in
          let r = subset-from_members (suc a) high t (x ∷ s) g.2 (omega arith, h.1, h.2) (rest_has a t (x ∷ s) above has) in
          let half : r.0 * 2 / 2 ≡ r.0 = omega arith in
          (r.0 * 2, omega arith, subset-even (r.0 * 2) a t (omega arith) ∙ ap (λ (k : ℕ). subset k t) half ∙ r.2)
      | inr most ↦
          let e : a ≡ x = elim (Contains-cons_cases a t x (has x (Contains-cons_head x s))) [
            | inl e ↦ e
            | inr l ↦ let r = IsRising-member (suc a) high t x g.2 l in absurd (omega arith)
          ] in
          let above : (i : ℕ) → Contains s i → a < i = λ i k. let r = IsRising-member (suc x) high s i h.2 k in omega arith in
          let P : ℕ → Type 0 = λ y. IsRising (suc y) high s in
          let r = subset-from_members (suc a) high t s g.2 (subst P (sym e) h.2) (rest_has a t s above (λ i k. has i (Contains-cons_tail x s i k))) in
          let half : (r.0 * 2 + 1) / 2 ≡ r.0 = omega arith in (
            r.0 * 2 + 1,
            omega arith,
            subset-odd (r.0 * 2 + 1) a t (omega arith) ∙ ap (λ (k : ℕ). a ∷ subset k t) half ∙ ap (λ (u : List ℕ). a ∷ u) r.2 ∙ ap (λ (y : ℕ). y ∷ s) e,
          )
    ]

-- what keeps the first item is nothing that leaves it out
first_kept : (a high : ℕ) (s t u : List ℕ) → IsRising (suc a) high u → (s ≡ a ∷ t) → (s ≡ u) → ⊥
first_kept a high s t u h e f =
    let P : List ℕ → Type 0 = λ v. Contains v a in
    let c : Contains u a = subst P f (subst P (sym e) (Contains-cons_head a t)) in
    let r = IsRising-member (suc a) high u a h c in
    omega arith

-- each subset has one number
pub subset-number : (low high j k : ℕ) (t : List ℕ) → IsRising low high t → j < 2 ^ length t → k < 2 ^ length t → subset j t ≡ subset k t → j ≡ k
subset-number low high j k [] h l m e = omega arith
subset-number low high j k (a ∷ t) h l m e =
    let p = pow-suc 2 (length t) in
    let rest : subset (j / 2) t ≡ subset (k / 2) t → j / 2 ≡ k / 2 = subset-number (suc a) high (j / 2) (k / 2) t h.2 (omega arith) (omega arith) in
    elim (even_or_odd j) [
      | inl even ↦ elim (even_or_odd k) [
        | inl other ↦ let i = rest (sym (subset-even j a t even) ∙ e ∙ subset-even k a t other) in omega arith
        | inr other ↦ absurd (first_kept a high (subset k (a ∷ t)) (subset (k / 2) t) (subset (j / 2) t) (IsRising-subset (j / 2) (suc a) high t h.2)
            (subset-odd k a t other) (sym e ∙ subset-even j a t even))
      ]
      | inr odd ↦ elim (even_or_odd k) [
        | inl other ↦ absurd (first_kept a high (subset j (a ∷ t)) (subset (j / 2) t) (subset (k / 2) t) (IsRising-subset (k / 2) (suc a) high t h.2)
            (subset-odd j a t odd) (e ∙ subset-even k a t other))
        | inr other ↦
            let same : a ∷ subset (j / 2) t ≡ a ∷ subset (k / 2) t = sym (subset-odd j a t odd) ∙ e ∙ subset-odd k a t other in
            let tails : subset (j / 2) t ≡ subset (k / 2) t = cc in
            let i = rest tails in
            omega arith
      ]
    ]

-- a subset of a subset of a tuple is a subset of it
pub subset-subset : (low high j k : ℕ) (t : List ℕ) → IsRising low high t → (m : ℕ) × (m < 2 ^ length t) × (subset m t ≡ subset j (subset k t))
subset-subset low high j k t h =
    subset-from_members low high t (subset j (subset k t)) h (IsRising-subset j low high (subset k t) (IsRising-subset k low high t h))
    (λ i l. member-from_subset k t i (member-from_subset j (subset k t) i l))
