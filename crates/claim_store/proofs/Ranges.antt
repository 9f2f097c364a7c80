-- A range that was taken out of a rising list is gone.
use Rattle.std.proofs.Common.{◌≡◌, ℕ, ◌<◌, ⊎_elim, Bool, true, false, cond, eqb, List, [], ◌∷◌, refl, ap, sym, ◌∙◌, inl, inr, arith}
use Rattle.std.specs.Prelude.{◌&&◌}
use Rattle.std.proofs.lemmas.Bool.{eq-eqb}
use Rattle.cover_core.specs.Core.{Has, IsRangeBefore, Rises}
use Rattle.cover_core.specs.Effects.{same_pair, take_out}
use Rattle.cover_core.proofs.Lists.{same_pair-true}

same_pair-refl : (x y : ℕ × ℕ) → y ≡ x → same_pair x y ≡ true
same_pair-refl x y e =
    let f : x.0 ≡ y.0 = ap (λ (z : ℕ × ℕ). z.0) (sym e) in
    let g : x.1 ≡ y.1 = ap (λ (z : ℕ × ℕ). z.1) (sym e) in
    ap (λ (b : Bool). b && eqb x.1 y.1) (eq-eqb x.0 y.0 f) ∙ eq-eqb x.1 y.1 g

not_before : (x y : ℕ × ℕ) → x ≡ y → IsRangeBefore y x → ⊥
not_before x y e h =
    let f : x.0 ≡ y.0 = ap (λ (z : ℕ × ℕ). z.0) e in
    let g : x.1 ≡ y.1 = ap (λ (z : ℕ × ℕ). z.1) e in
    ⊎_elim (λ (l : y.0 < x.0). absurd (omega arith)) (λ (p : (y.0 ≡ x.0) × (y.1 < x.1)). let l = p.1 in absurd (omega arith)) h

pub take_out-gone : (x : ℕ × ℕ) (l : List (ℕ × ℕ)) → Rises IsRangeBefore l → Has x (take_out x l) → ⊥
take_out-gone x [] r h = h
take_out-gone x (y ∷ ys) r h = go (same_pair x y) refl (λ k. take_out-gone x ys r.1 k) h
  where
    go : (b : Bool) → same_pair x y ≡ b → (Has x (take_out x ys) → ⊥) → Has x (cond b ys (y ∷ take_out x ys)) → ⊥
    go true e more k = not_before x y (same_pair-true x y e) (r.0 x k)
    go false e more (inl k) = let t = same_pair-refl x y k in absurd (cc)
    go false e more (inr k) = more k
