-- The polynomials on the wires of a gadget.
use Rattle.std.proofs.Common.{◌≡◌, ◌⊎◌, ℕ, zero, suc, ◌<◌, ◌≤◌, ◌^◌, List, [], ◌∷◌, refl, ap, sym, ◌∙◌, inl, inr, arith, subst, Contains, bit_or, Some, length}
use Rattle.std.specs.Prelude.{slice_get}
use Rattle.std.specs.Int.{bit_at}
use Rattle.std.proofs.lemmas.Bool.{cases_eq, cases_lt}
use Rattle.std.proofs.lemmas.List.{get_or_past}
use Rattle.std.proofs.lemmas.Nat.Bits.{bit_at_or, bit_at-lt, bit_at-pow_other}
use Rattle.std.proofs.lemmas.Option.{slice_get_cases}
use Rattle.list_laws.proofs.Members.{Contains-cons_cases}
use Rattle.list_laws.proofs.Once.{Once, Once-nil, Once-single, Contains-nil}
use Rattle.gadget_model.specs.Circuit.{Node, share, random, copy, sum_of, product_of, Circuit, nodes, wires_from, NamesEarlier, IsInOrder}
use Rattle.gadget_model.specs.Polynomials.{HasVariable, symmetric_difference, odd_ones, unions, polynomial_of, polynomial}
use Rattle.gadget_model.specs.Classes.{IsShare, IsRandom}
use Rattle.gadget_model.proofs.Values.{wires_from-node, wires_from-each, length-wires_from}
use Rattle.gadget_model.proofs.Polynomials.{once-symmetric_difference, once-odd_ones, Contains-from_symmetric_difference, Contains-from_odd_ones, Contains-from_unions}

-- a node's polynomial depends on those of its operands alone
polynomial_of-agree : (randoms n : ℕ) (e e' : ℕ → List ℕ) (v : Node) → NamesEarlier randoms n v → ((k : ℕ) → k < n → e k ≡ e' k) →
    polynomial_of e n v ≡ polynomial_of e' n v
polynomial_of-agree randoms n e e' (share k) h same = refl
polynomial_of-agree randoms n e e' (random k) h same = refl
polynomial_of-agree randoms n e e' (copy a) h same = same a h
polynomial_of-agree randoms n e e' (sum_of a b) h same =
    ap (λ (p : List ℕ). symmetric_difference p (e b)) (same a h.0) ∙ ap (symmetric_difference (e' a)) (same b h.1)
polynomial_of-agree randoms n e e' (product_of a b) h same =
    ap (λ (p : List ℕ). odd_ones (unions p (e b))) (same a h.0) ∙ ap (λ (q : List ℕ). odd_ones (unions (e' a) q)) (same b h.1)

-- the polynomial of a wire is what its node gives from the polynomials of the wires
pub polynomial-node : (g : Circuit) → IsInOrder g → (v : ℕ) (node : Node) → slice_get (nodes g) v ≡ Some node →
    polynomial g v ≡ polynomial_of (polynomial g) v node
unfolding polynomial
polynomial-node g ordered v node e =
    wires_from-node [] polynomial_of g ordered (λ n e e' v h same. polynomial_of-agree g.randoms n e e' v h same) v node e

-- a wire that isn't there has no monomials
pub polynomial-past : (g : Circuit) (v : ℕ) → length (nodes g) ≤ v → polynomial g v ≡ []
unfolding polynomial
polynomial-past g v past =
    let l = length-wires_from [] polynomial_of [] (nodes g) in
    get_or_past (wires_from [] polynomial_of [] (nodes g)) v [] (omega arith)

-- a node gives a polynomial without repeats
once-polynomial_of : (earlier : ℕ → List ℕ) (n : ℕ) (v : Node) → ((k : ℕ) → Once (earlier k)) → Once (polynomial_of earlier n v)
once-polynomial_of earlier n (share k) once = Once-single (2 ^ n)
once-polynomial_of earlier n (random k) once = Once-single (2 ^ n)
once-polynomial_of earlier n (copy a) once = once a
once-polynomial_of earlier n (sum_of a b) once = once-symmetric_difference (earlier a) (earlier b) (once a) (once b)
once-polynomial_of earlier n (product_of a b) once = once-odd_ones (unions (earlier a) (earlier b))

-- each monomial of a wire's polynomial stands in it once
pub once-polynomial : (g : Circuit) (v : ℕ) → Once (polynomial g v)
unfolding polynomial
once-polynomial g v = wires_from-each (λ p. Once p) [] polynomial_of Once-nil once-polynomial_of [] (nodes g) (λ k. Once-nil) v

-- the monomial of a variable alone has no other
only_variable : (v m w : ℕ) → Contains (2 ^ v ∷ []) m → HasVariable m w → v ≡ w
only_variable v m w h has = elim (Contains-cons_cases (2 ^ v) [] m h) [
  | inl e ↦ elim (cases_eq v w) [
    | inl same ↦ same
    | inr other ↦
        let none = bit_at-pow_other v w (λ e. other (sym e)) in
        let one : bit_at (2 ^ v) w ≡ 1 = ap (λ (k : ℕ). bit_at k w) e ∙ has in
        absurd (omega arith)
  ]
  | inr none ↦ absurd (Contains-nil m none)
]

-- a variable of a union is in one of the two
pub HasVariable-or_cases : (a b w : ℕ) → HasVariable (bit_or a b) w → HasVariable a w ⊎ HasVariable b w
HasVariable-or_cases a b w has =
    let e = bit_at_or a b w in
    let l = bit_at-lt a w in
    let l' = bit_at-lt b w in
    elim (cases_lt (bit_at a w) 1) [ inl less ↦ inr (omega arith) | inr most ↦ inl (omega arith) ]

-- a variable is an input share or a random
abbrev pub IsLeaf : Circuit → ℕ → Type 0
IsLeaf g w = IsShare g w ⊎ IsRandom g w

-- the variables of a node's polynomial are leaves where those of the earlier wires are
leaves-node : (g : Circuit) (v : ℕ) (node : Node) → slice_get (nodes g) v ≡ Some node → NamesEarlier g.randoms v node →
    ((u : ℕ) → u < v → (m w : ℕ) → Contains (polynomial g u) m → HasVariable m w → IsLeaf g w) →
    (m w : ℕ) → Contains (polynomial_of (polynomial g) v node) m → HasVariable m w → IsLeaf g w
leaves-node g v (share k) at names earlier m w h has =
    let P : ℕ → Type 0 = λ u. slice_get (nodes g) u ≡ Some (share k) in inl (k, subst P (only_variable v m w h has) at)
leaves-node g v (random k) at names earlier m w h has =
    let P : ℕ → Type 0 = λ u. slice_get (nodes g) u ≡ Some (random k) in inr (k, subst P (only_variable v m w h has) at)
leaves-node g v (copy a) at names earlier m w h has = earlier a names m w h has
leaves-node g v (sum_of a b) at names earlier m w h has = elim (Contains-from_symmetric_difference (polynomial g a) (polynomial g b) m h) [
  | inl k ↦ earlier a names.0 m w k has
  | inr k ↦ earlier b names.1 m w k has
]
leaves-node g v (product_of a b) at names earlier m w h has =
    let r = Contains-from_unions (polynomial g a) (polynomial g b) m (Contains-from_odd_ones (unions (polynomial g a) (polynomial g b)) m h) in
    let P : ℕ → Type 0 = λ n. HasVariable n w in
    elim (HasVariable-or_cases r.0 r.1 w (subst P (sym r.4) has)) [
      | inl k ↦ earlier a names.0 r.0 w r.2 k
      | inr k ↦ earlier b names.1 r.1 w r.3 k
    ]

-- `leaves-polynomial` for the wires before n
leaves-below : (g : Circuit) → IsInOrder g → (n v : ℕ) → v < n → (m w : ℕ) → Contains (polynomial g v) m → HasVariable m w → IsLeaf g w
leaves-below g ordered zero v less m w h has = absurd (omega arith)
leaves-below g ordered (suc n) v less m w h has = elim ((slice_get_cases (nodes g) v).1) [
  | inl there ↦
      let P : List ℕ → Type 0 = λ p. Contains p m in
      leaves-node g v there.0 there.2 (ordered v there.0 there.2)
      (λ u below k z c. leaves-below g ordered n u (omega arith) k z c) m w
      (subst P (polynomial-node g ordered v there.0 there.2) h) has
  | inr past ↦ let P : List ℕ → Type 0 = λ p. Contains p m in absurd (Contains-nil m (subst P (polynomial-past g v past.0) h))
]

-- each variable of a wire's polynomial is an input share or a random
pub leaves-polynomial : (g : Circuit) → IsInOrder g → (v m w : ℕ) → Contains (polynomial g v) m → HasVariable m w → IsShare g w ⊎ IsRandom g w
leaves-polynomial g ordered v m w h has = leaves-below g ordered (suc v) v (omega arith) m w h has
