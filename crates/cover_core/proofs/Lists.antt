-- Members of rising lists.
use Rattle.std.specs.Prelude.{◌&&◌}
use Rattle.std.proofs.Common.{◌≡◌, ℕ, zero, suc, ◌+◌, ◌⊎◌, ⊎_elim, Bool, true, false, cond, eqb, ltb, List, [], ◌∷◌, set, refl, ap, sym, ◌∙◌, inl, inr, arith, subst}
use Rattle.std.proofs.lemmas.Bool.{cases_Bool, eq-eqb, eqb-true, and_parts, ne_eqb}
use mathlib.Core.Option.{some, some-injective, some-ne-none}
use lib.ListN.{get_elem?}
use Rattle.cover_core.specs.Core.{Has, one_if, times}
use Rattle.cover_core.specs.Effects.{comes_first, put_number, put_numbers, put_pair, put_pairs, same_pair, take_out}

pub same_pair-true : (x y : ℕ × ℕ) → same_pair x y ≡ true → x ≡ y
same_pair-true x y e =
    let h = and_parts (eqb x.0 y.0) (eqb x.1 y.1) e in
    let p : x.0 ≡ y.0 = eqb-true x.0 y.0 h.0 in
    let q : x.1 ≡ y.1 = eqb-true x.1 y.1 h.1 in
    λ i. (p i, q i)

pub same_pair-same : (x y : ℕ × ℕ) → x ≡ y → same_pair x y ≡ true
same_pair-same x y e =
    let p = eq-eqb x.0 y.0 (ap (λ (z : ℕ × ℕ). z.0) e) in
    let q = eq-eqb x.1 y.1 (ap (λ (z : ℕ × ℕ). z.1) e) in
    ap (λ (b : Bool). b && eqb x.1 y.1) p ∙ q

pub put_pair-here : (x : ℕ × ℕ) (l : List (ℕ × ℕ)) → Has x (put_pair x l)
put_pair-here x [] = inl refl
put_pair-here x (y ∷ ys) = elim (cases_Bool (same_pair x y)) [
  | inl same ↦ let F : Bool → Type 0 = λ b. Has x (cond b (y ∷ ys) (cond (comes_first x y) (x ∷ y ∷ ys) (y ∷ put_pair x ys))) in
      subst F (sym same) (inl (sym (same_pair-true x y same)))
  | inr apart ↦ let F : Bool → Type 0 = λ b. Has x (cond b (y ∷ ys) (cond (comes_first x y) (x ∷ y ∷ ys) (y ∷ put_pair x ys))) in
      subst F (sym apart) (elim (comes_first x y) as (λ b. Has x (cond b (x ∷ y ∷ ys) (y ∷ put_pair x ys))) [ true ↦ inl refl | false ↦ inr (put_pair-here x ys) ])
]

pub put_pair-on : (z x : ℕ × ℕ) (l : List (ℕ × ℕ)) → Has z l → Has z (put_pair x l)
put_pair-on z x [] h = absurd h
put_pair-on z x (y ∷ ys) h = elim (same_pair x y) as (λ b. Has z (cond b (y ∷ ys) (cond (comes_first x y) (x ∷ y ∷ ys) (y ∷ put_pair x ys)))) [
  | true ↦ h
  | false ↦ elim (comes_first x y) as (λ b. Has z (cond b (x ∷ y ∷ ys) (y ∷ put_pair x ys))) [
    | true ↦ inr h
    | false ↦ ⊎_elim (λ (e : y ≡ z). inl e) (λ (k : Has z ys). inr (put_pair-on z x ys k)) h
  ]
]

pub put_pair-from : (z x : ℕ × ℕ) (l : List (ℕ × ℕ)) → Has z (put_pair x l) → (x ≡ z) ⊎ Has z l
put_pair-from z x [] h = h
put_pair-from z x (y ∷ ys) h = go (same_pair x y) (comes_first x y) (λ k. put_pair-from z x ys k) h
  where
    go : (b d : Bool) → (Has z (put_pair x ys) → (x ≡ z) ⊎ Has z ys) → Has z (cond b (y ∷ ys) (cond d (x ∷ y ∷ ys) (y ∷ put_pair x ys))) → (x ≡ z) ⊎ Has z (y ∷ ys)
    go true d more h = inr h
    go false true more h = h
    go false false more (inl e) = inr (inl e)
    go false false more (inr k) = ⊎_elim (λ (e : x ≡ z). inl e) (λ (m : Has z ys). inr (inr m)) (more k)

pub put_pairs-from : (z : ℕ × ℕ) (xs l : List (ℕ × ℕ)) → Has z (put_pairs xs l) → Has z xs ⊎ Has z l
put_pairs-from z [] l h = inr h
put_pairs-from z (x ∷ xs) l h = ⊎_elim (λ (e : x ≡ z). inl (inl e)) (λ (k : Has z (put_pairs xs l)). ⊎_elim (λ (m : Has z xs). inl (inr m)) (λ (m : Has z l). inr m) (put_pairs-from z xs l k)) (put_pair-from z x (put_pairs xs l) h)

pub put_pairs-right : (z : ℕ × ℕ) (xs l : List (ℕ × ℕ)) → Has z l → Has z (put_pairs xs l)
put_pairs-right z [] l h = h
put_pairs-right z (x ∷ xs) l h = put_pair-on z x (put_pairs xs l) (put_pairs-right z xs l h)

pub put_pairs-left : (z : ℕ × ℕ) (xs l : List (ℕ × ℕ)) → Has z xs → Has z (put_pairs xs l)
put_pairs-left z [] l h = absurd h
put_pairs-left z (x ∷ xs) l (inl e) = let F : ℕ × ℕ → Type 0 = λ y. Has y (put_pair x (put_pairs xs l)) in subst F e (put_pair-here x (put_pairs xs l))
put_pairs-left z (x ∷ xs) l (inr h) = put_pair-on z x (put_pairs xs l) (put_pairs-left z xs l h)

pub take_out-from : (z x : ℕ × ℕ) (l : List (ℕ × ℕ)) → Has z (take_out x l) → Has z l
take_out-from z x [] h = absurd h
take_out-from z x (y ∷ ys) h = go (same_pair x y) (λ k. take_out-from z x ys k) h
  where
    go : (b : Bool) → (Has z (take_out x ys) → Has z ys) → Has z (cond b ys (y ∷ take_out x ys)) → Has z (y ∷ ys)
    go true more h = inr h
    go false more (inl e) = inl e
    go false more (inr k) = inr (more k)

pub take_out-on : (z x : ℕ × ℕ) (l : List (ℕ × ℕ)) → Has z l → (x ≡ z) ⊎ Has z (take_out x l)
take_out-on z x [] h = absurd h
take_out-on z x (y ∷ ys) h = go (same_pair x y) refl (λ k. take_out-on z x ys k) h
  where
    go : (b : Bool) → same_pair x y ≡ b → (Has z ys → (x ≡ z) ⊎ Has z (take_out x ys)) → Has z (y ∷ ys) → (x ≡ z) ⊎ Has z (cond b ys (y ∷ take_out x ys))
    go true e more (inl k) = inl (same_pair-true x y e ∙ k)
    go true e more (inr k) = inr k
    go false e more (inl k) = inr (inl k)
    go false e more (inr k) = ⊎_elim (λ (e : x ≡ z). inl e) (λ (m : Has z (take_out x ys)). inr (inr m)) (more k)

pub times-put : (d c : ℕ) (l : List ℕ) → times d (put_number c l) ≡ times d (c ∷ l)
times-put d c [] = refl
times-put d c (y ∷ ys) = elim (ltb y c) as (λ b. times d (cond b (y ∷ put_number c ys) (c ∷ y ∷ ys)) ≡ times d (c ∷ y ∷ ys)) [
  | true ↦ let h = times-put d c ys in omega arith
  | false ↦ refl
]

pub times-puts : (d : ℕ) (xs l : List ℕ) → times d (put_numbers xs l) ≡ times d xs + times d l
times-puts d [] l = omega arith
times-puts d (x ∷ xs) l = let h = times-puts d xs l in let k = times-put d x (put_numbers xs l) in omega arith

-- a word that was 0 becomes a code
pub times-set : (d c : ℕ) (words : List ℕ) (p : ℕ) → get_elem? words p ≡ some 0 → times (suc d) (set words p c) ≡ times (suc d) (c ∷ words)
times-set d c [] p e = absurd (some-ne-none 0 (sym e))
times-set d c (x ∷ xs) zero e = let h = some-injective x 0 e in let k : one_if (eqb x (suc d)) ≡ 0 = ap (λ (y : ℕ). one_if (eqb y (suc d))) h ∙ ap one_if (ne_eqb 0 (suc d) (λ q. omega arith)) in omega arith
times-set d c (x ∷ xs) (suc p) e = let h = times-set d c xs p e in omega arith
