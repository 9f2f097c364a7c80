-- The codes that were made: each is stored, and stands in the list of one view, once.
use Rattle.std.proofs.Common.{◌≡◌, ◌≢◌, ℕ, zero, suc, ◌+◌, ◌<◌, ◌≤◌, eqb, List, [], ◌∷◌, length, set, refl, ap, sym, ◌∙◌, inl, inr, arith}
use Rattle.std.proofs.lemmas.Bool.{cases_eq, ne_eqb, eq-eqb}
use mathlib.Core.Option.{some, some-injective, some-ne-none}
use lib.ListN.{get_elem?}
use Rattle.atomic_table.proofs.Lists.{set_else}
use Rattle.cover_core.specs.declared.state.View.{View}
use Rattle.cover_core.specs.declared.state.State.{State}
use Rattle.cover_core.specs.Core.{Any, Asked, CoreOk, Has, IsAt, one_if, times, total}
use Rattle.cover_core.specs.Effects.{spent}
use Rattle.cover_core.proofs.Changing.{total_set}
use Rattle.cover_core.proofs.Paths.{times-none}
use Rattle.cover_core.proofs.Full.{one_stored}

one_if-same : (x c : ℕ) → x ≡ c → one_if (eqb x c) ≡ 1
one_if-same x c e = ap one_if (eq-eqb x c e)

one_if-other : (x c : ℕ) → x ≢ c → one_if (eqb x c) ≡ 0
one_if-other x c n = ap one_if (ne_eqb x c n)

pub times-has : (c : ℕ) (l : List ℕ) → Has c l → 0 < times c l
times-has c [] h = absurd h
times-has c (x ∷ xs) (inl e) = let f = one_if-same x c e in omega arith
times-has c (x ∷ xs) (inr h) = let f = times-has c xs h in omega arith

pub has-times : (c : ℕ) (l : List ℕ) → 0 < times c l → Has c l
has-times c [] h = absurd (omega arith)
has-times c (x ∷ xs) h = elim (cases_eq x c) [
  | inl same ↦ inl same
  | inr apart ↦ let f = one_if-other x c apart in inr (has-times c xs (omega arith))
]

pub at-has : (c p : ℕ) (l : List ℕ) → IsAt l p c → Has c l
at-has c p [] e = absurd (some-ne-none c (sym e))
at-has c zero (x ∷ xs) e = inl (some-injective x c e)
at-has c (suc p) (x ∷ xs) e = inr (at-has c p xs e)

pub has-at : (c : ℕ) (l : List ℕ) → Has c l → (p : ℕ) × IsAt l p c
has-at c [] h = absurd h
has-at c (x ∷ xs) (inl e) = (0, ap (λ (y : ℕ). some y) e)
has-at c (x ∷ xs) (inr h) = let r = has-at c xs h in (suc r.0, r.1)

-- what stands at one place at most stands there once
times-once : (c : ℕ) (words : List ℕ) → ((p q : ℕ) → IsAt words p c → IsAt words q c → p ≡ q) → times c words ≤ 1
times-once c [] one = omega arith
times-once c (x ∷ xs) one = elim (cases_eq x c) [
  | inl same ↦
      let f = one_if-same x c same in
      let z = times-none c xs (λ p e. let q = one 0 (suc p) (ap (λ (y : ℕ). some y) same) e in absurd (omega arith)) in omega arith
  | inr apart ↦
      let f = one_if-other x c apart in
      let h = times-once c xs (λ p q e g. let s = one (suc p) (suc q) e g in omega arith) in omega arith
]

pub total-at : (f : View → ℕ) (views : List View) (i : ℕ) (v : View) → get_elem? views i ≡ some v → f v ≤ total f views
total-at f [] i v e = absurd (some-ne-none v (sym e))
total-at f (x ∷ xs) zero v e = let h = ap f (some-injective x v e) in omega arith
total-at f (x ∷ xs) (suc i) v e = let h = total-at f xs i v e in omega arith

pub total-any : (f : View → ℕ) (views : List View) → 0 < total f views → Any (λ v. 0 < f v) views
total-any f [] h = absurd (omega arith)
total-any f (x ∷ xs) h = elim (cases_eq (f x) 0) [
  | inl none ↦ let r = total-any f xs (omega arith) in record { seat = suc r.seat; view = r.view; at = r.at; has = r.has }
  | inr some_left ↦ record { seat = 0; view = x; at = refl; has = omega arith }
]

-- two seats
total-two : (f : View → ℕ) (views : List View) (i j : ℕ) (v u : View) → f spent ≡ 0 → get_elem? views i ≡ some v → get_elem? views j ≡ some u → (j ≢ i) → f v + f u ≤ total f views
total-two f views i j v u none at other apart =
    let t = total_set f views i v spent at in
    let r = total-at f (set views i spent) j u (set_else views i j spent apart ∙ other) in omega arith

module _ (a : Asked) (s : State) (ok : CoreOk a s) where
  -- a code that was made is stored, and so is none but 0 that isn't made
  pub made-stored : (i : ℕ) (v : View) (c : ℕ) → get_elem? s.views i ≡ some v → Has c v.made → (c ≢ 0) × ((p : ℕ) × IsAt s.words p c)
  made-stored i v zero at h =
      let t = total-at (λ (u : View). times 0 u.made) s.views i v at in
      let m = times-has 0 v.made h in let z = ok.made_none in absurd (omega arith)
  made-stored i v (suc c) at h =
      let t = total-at (λ (u : View). times (suc c) u.made) s.views i v at in
      let m = times-has (suc c) v.made h in let e = ok.made c in
      ((λ z. omega arith), has-at (suc c) s.words (has-times (suc c) s.words (omega arith)))

  pub stored-made : (p c : ℕ) → IsAt s.words p c → c ≢ 0 → Any (λ v. Has c v.made) s.views
  stored-made p zero here nonzero = absurd (nonzero refl)
  stored-made p (suc c) here nonzero =
      let m = times-has (suc c) s.words (at-has (suc c) p s.words here) in
      let e = ok.made c in
      let r = total-any (λ (u : View). times (suc c) u.made) s.views (omega arith) in
      record { seat = r.seat; view = r.view; at = r.at; has = has-times (suc c) r.view.made r.has }

  -- no two seats have made one code
  pub made-apart : (i j : ℕ) (v u : View) (c : ℕ) → get_elem? s.views i ≡ some v → get_elem? s.views j ≡ some u → (j ≢ i) → Has c v.made → Has c u.made → ⊥
  made-apart i j v u zero at other apart h k = (made-stored i v 0 at h).0 refl
  made-apart i j v u (suc c) at other apart h k =
      let t = total-two (λ (w : View). times (suc c) w.made) s.views i j v u refl at other apart in
      let m = times-has (suc c) v.made h in
      let n = times-has (suc c) u.made k in
      let e = ok.made c in
      let one = times-once (suc c) s.words (λ p q b d. one_stored (length s.words) (suc c) p q s.words refl ok.in_order (λ z. omega arith) b d) in
      absurd (omega arith)

  pub made-once : (i j : ℕ) (v u : View) (c : ℕ) → get_elem? s.views i ≡ some v → get_elem? s.views j ≡ some u → Has c v.made → Has c u.made → i ≡ j
  made-once i j v u c at other h k = elim (cases_eq j i) [
    | inl same ↦ sym same
    | inr apart ↦ absurd (made-apart i j v u c at other apart h k)
  ]
