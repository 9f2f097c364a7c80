-- How often lists of bits come in distributions.
use Rattle.std.proofs.Common.{◌≡◌, ◌<◌, Bool, List, [], ◌∷◌, ◌++◌, refl, ap, sym, inl, inr, arith}
use Rattle.std.specs.Prelude.{count_by}
use Rattle.std.proofs.lemmas.Bool.{cases_Bool}
use Rattle.list_laws.proofs.Counts.{one_if, count_by-cons, count_by-middle}
use Rattle.gadget_model.specs.Bits.{same_bits}
use Rattle.gadget_model.specs.Simulation.{SameDistribution}
use Rattle.gadget_model.proofs.SameBits.{same_bits-self, same_bits-true}

-- where a list of bits is counted, it stands
split_at : (y : List Bool) (s : List (List Bool)) → 0 < count_by (same_bits y) s → (a b : List (List Bool)) × (s ≡ a ++ y ∷ b)
split_at y [] h = absurd (omega arith)
split_at y (z ∷ s) h = elim (cases_Bool (same_bits y z)) [
  | inl t ↦ ([], s, ap (λ (w : List Bool). w ∷ s) (sym (same_bits-true y z t)))
  | inr f ↦
      let e = count_by-cons (same_bits y) z s in
      let e' = ap one_if f in
      let r = split_at y s (omega arith) in
      (z ∷ r.0, r.1, ap (λ (w : List (List Bool)). z ∷ w) r.2)
]

-- where each observation comes equally often, so does each kind of observation
pub count_by-same : (s s' : List (List Bool)) → SameDistribution s s' → (p : List Bool → Bool) → count_by p s ≡ count_by p s'
count_by-same [] [] same p = refl
count_by-same [] (z ∷ s') same p =
    let e = count_by-cons (same_bits z) z s' in
    let e' = ap one_if (same_bits-self z) in
    let h = same z in
    absurd (omega arith)
count_by-same (y ∷ s) s' same p =
    let e = count_by-cons (same_bits y) y s in
    let e' = ap one_if (same_bits-self y) in
    let h = same y in
    let r = split_at y s' (omega arith) in
    let less : SameDistribution s (r.0 ++ r.1) = λ z.
    let u = count_by-cons (same_bits z) y s in
    let v = count_by-middle (same_bits z) r.0 y r.1 in
    let w = ap (count_by (same_bits z)) r.2 in
    let k = same z in
    omega arith in
    let i = count_by-same s (r.0 ++ r.1) less p in
    let u = count_by-cons p y s in
    let v = count_by-middle p r.0 y r.1 in
    let w = ap (count_by p) r.2 in
    omega arith
