-- Monomials with at most two variables.
use Rattle.std.proofs.Common.{◌≡◌, ℕ, ◌<◌, ◌≤◌, List, length, get_or, ap, sym, subst, inl, inr, arith}
use Rattle.std.specs.List.Sorted.{IsStrictlyIncreasing}
use Rattle.std.specs.Int.{bit_at}
use Rattle.std.proofs.lemmas.Bool.{cases_eq, cases_lt}
use Rattle.std.proofs.lemmas.List.{length-map, get_or_read}
use Rattle.std.proofs.lemmas.List.Elements.{Contains-get_or, All-map, All-weaker}
use Rattle.std.proofs.Math.ListN.{get_or-map}
use Rattle.smallvec.specs.SmallVec.{SmallVec}
use Rattle.anf.specs.Polynomials.{set_of, HasThreeVariables, HasFewVariables}
use Rattle.anf.specs.Monomials.{sets_of, AreRising, ArePairs, AreFactors, IsPoly}
use Rattle.anf.proofs.Sets.{bit_from_Contains, Contains-from_bit}

-- a monomial of more than two rising variables has three
pub HasThreeVariables-from_length : (vs : List ℕ) → IsStrictlyIncreasing vs → 2 < length vs → HasThreeVariables (set_of vs)
HasThreeVariables-from_length vs rising l =
    let has : (k : ℕ) → k < 3 → bit_at (set_of vs) (get_or vs k 0) ≡ 1 = λ k m. bit_from_Contains vs (get_or vs k 0) (Contains-get_or vs k 0 (omega arith)) in
    (get_or vs 0 0, get_or vs 1 0, get_or vs 2 0, rising 0 (omega arith), rising 1 (omega arith), has 0 (omega arith), has 1 (omega arith), has 2 (omega arith))

-- monomials with few variables are stored with few
pub ArePairs-from_few : (ms : List (SmallVec ℕ)) (p : List ℕ) → sets_of ms ≡ p → AreRising ms → HasFewVariables p → ArePairs ms
ArePairs-from_few ms p e rising few k d l =
    let f : SmallVec ℕ → ℕ = λ m. set_of m.items in
    let m = get_or ms k d in
    let fewer : HasThreeVariables (f m) → ⊥ = λ h.
    subst HasFewVariables (sym e) few k (f d) (omega (arith, length-map ms f)) (subst HasThreeVariables (sym (get_or-map f ms k d)) h) in
    elim (cases_lt 2 (length m.items)) [ inl more ↦ absurd (fewer (HasThreeVariables-from_length m.items (rising k d l) more)) | inr enough ↦ enough ]

-- so they may be multiplied
pub AreFactors-from_few : (ms : List (SmallVec ℕ)) (p : List ℕ) → sets_of ms ≡ p → IsPoly ms → HasFewVariables p → AreFactors ms
AreFactors-from_few ms p e is few k d l =
    record { rising = is.rising k d l; some = is.filled k d l; few = ArePairs-from_few ms p e is.rising few k d l }

-- two variables are no three
no_three : (vs : List ℕ) → length vs ≤ 2 → HasThreeVariables (set_of vs) → ⊥
no_three vs few (u, v, w, below, above, has_u, has_v, has_w) =
    let at_u = Contains-from_bit vs u has_u in
    let at_v = Contains-from_bit vs v has_v in
    let at_w = Contains-from_bit vs w has_w in
    let read_u = get_or_read vs at_u.0 u at_u.1 (sym at_u.2) 0 in
    let read_v = get_or_read vs at_v.0 v at_v.1 (sym at_v.2) 0 in
    let read_w = get_or_read vs at_w.0 w at_w.1 (sym at_w.2) 0 in
    let at : ℕ → ℕ = λ k. get_or vs k 0 in
    elim (cases_eq at_u.0 at_v.0) [
      | inl same ↦ let e = ap at same in omega arith
      | inr other ↦ elim (cases_eq at_v.0 at_w.0) [
        | inl same ↦ let e = ap at same in omega arith
        | inr other' ↦ let same : at_u.0 ≡ at_w.0 = omega (arith, at_u.1, at_v.1, at_w.1) in let e = ap at same in omega arith
      ]
    ]

-- monomials that are stored with few variables have few
pub HasFewVariables-from_pairs : (ms : List (SmallVec ℕ)) (p : List ℕ) → sets_of ms ≡ p → ArePairs ms → HasFewVariables p
HasFewVariables-from_pairs ms p e few =
    subst HasFewVariables e
    (All-map (λ (m : ℕ). HasThreeVariables m → ⊥) (λ (m : SmallVec ℕ). set_of m.items) ms
    (All-weaker (λ (m : SmallVec ℕ). length m.items ≤ 2) (λ (m : SmallVec ℕ). HasThreeVariables (set_of m.items) → ⊥) (λ m l. no_three m.items l) ms few))
