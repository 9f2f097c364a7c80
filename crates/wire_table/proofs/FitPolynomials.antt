-- The monomials of a polynomial in the class.
use Rattle.std.proofs.Common.{◌≡◌, ◌≢◌, ℕ, ◌<◌, ◌≤◌, ◌⊎◌, List, [], ◌∷◌, length, get_or, ap, inl, inr, arith, Contains}
use Rattle.std.specs.List.{All}
use Rattle.std.specs.List.Sorted.{IsStrictlyIncreasing}
use Rattle.std.proofs.lemmas.Bool.Decides.{eqb_tells}
use Rattle.std.proofs.lemmas.List.Elements.{All-head, All-tail, All-cons, All-nil, Contains-get_or}
use Rattle.list_laws.proofs.Members.{Contains-cons_head, Contains-cons_tail, Contains-cons_cases}
use Rattle.gadget_model.specs.Circuit.{Circuit}
use Rattle.gadget_model.specs.Polynomials.{HasVariable}
use Rattle.gadget_model.specs.Classes.{IsShare, IsRandom}
use Rattle.anf.specs.Polynomials.{set_of}
use Rattle.anf.proofs.Sets.{bit_from_Contains}
use Rattle.wire_table.specs.Terms.{IsFitMonomial, IsFitPolynomial}

-- all of some leaves are input shares, or one of them is a random
shares_or_random : (g : Circuit) (vs : List ℕ) → All (λ v. IsShare g v ⊎ IsRandom g v) vs → All (IsShare g) vs ⊎ ((v : ℕ) × Contains vs v × IsRandom g v)
shares_or_random g [] leaves = inl (All-nil (IsShare g))
shares_or_random g (v ∷ vs) leaves =
    let P : ℕ → Type 0 = λ w. IsShare g w ⊎ IsRandom g w in
    elim (All-head P v vs leaves) [
      | inr random ↦ inr (v, Contains-cons_head v vs, random)
      | inl share ↦ elim (shares_or_random g vs (All-tail P v vs leaves)) [
        | inl all ↦ inl (All-cons (IsShare g) v vs share all)
        | inr some ↦ inr (some.0, Contains-cons_tail v vs some.0 some.1, some.2)
      ]
    ]

-- in a monomial with one random and no product of randoms, the random stands alone
random_alone : (g : Circuit) (vs : List ℕ) (v : ℕ) → IsStrictlyIncreasing vs → Contains vs v → IsRandom g v →
    ((w : ℕ) → Contains vs w → v ≢ w → ⊥) → vs ≡ v ∷ []
random_alone g [] v up among random none = absurd (omega (arith, among.1))
random_alone g (a ∷ []) v up among random none = elim (Contains-cons_cases a [] v among) [
  | inl e ↦ ap (λ (w : ℕ). w ∷ []) e
  | inr h ↦ absurd (omega (arith, h.1))
]
random_alone g (a ∷ b ∷ vs) v up among random none =
    let less : a < b = up 0 (omega arith) in
    elim (eqb_tells v a) [
      | inl same ↦ absurd (none b (Contains-cons_tail a (b ∷ vs) b (Contains-cons_head b vs)) (λ e. let f = same.1 in omega arith))
      | inr other ↦ absurd (none a (Contains-cons_head a (b ∷ vs)) other.1)
    ]

-- in a monomial of input shares that is of no degree above two, there are at most two
at_most_two : (g : Circuit) (vs : List ℕ) → IsStrictlyIncreasing vs → All (IsShare g) vs →
    ((u v w : ℕ) → u < v → v < w → Contains vs u → Contains vs v → Contains vs w → IsShare g u → IsShare g v → IsShare g w → ⊥) → length vs ≤ 2
at_most_two g [] up all none = omega arith
at_most_two g (a ∷ []) up all none = omega arith
at_most_two g (a ∷ b ∷ []) up all none = omega arith
at_most_two g (a ∷ b ∷ c ∷ vs) up all none = absurd (none a b c (up 0 (omega arith)) (up 1 (omega arith))
    (Contains-cons_head a (b ∷ c ∷ vs))
    (Contains-cons_tail a (b ∷ c ∷ vs) b (Contains-cons_head b (c ∷ vs)))
    (Contains-cons_tail a (b ∷ c ∷ vs) c (Contains-cons_tail b (c ∷ vs) c (Contains-cons_head c vs)))
    (all 0 0 (omega arith)) (all 1 0 (omega arith)) (all 2 0 (omega arith)))

-- each monomial is a random alone, or at most two input shares
pub IsFitMonomial-from_polynomial : (g : Circuit) (p vs : List ℕ) → IsFitPolynomial g p → Contains p (set_of vs) → IsStrictlyIncreasing vs → IsFitMonomial g vs
IsFitMonomial-from_polynomial g p vs fit among up =
    let has : (v : ℕ) → Contains vs v → HasVariable (set_of vs) v = λ v h. bit_from_Contains vs v h in
    elim (shares_or_random g vs (λ i d l. fit.leaves (set_of vs) (get_or vs i d) among (has (get_or vs i d) (Contains-get_or vs i d l)))) [
      | inl all ↦ inr (
        at_most_two g vs up all
            (λ u v w less more cu cv cw su sv sw. fit.few_shares (set_of vs, among, (u, v, w, less, more, has u cu, su, has v cv, sv, has w cw, sw))),
        all,
      )
      | inr some ↦ inl (
        some.0,
        random_alone g vs some.0 up some.1 some.2 (λ w h other. fit.random_alone (set_of vs, among, (some.0, w, has some.0 some.1, some.2, has w h, other))),
        some.2,
      )
    ]
