-- Polynomials as sets of monomials: what stands in a symmetric difference and among the odd ones.
use Rattle.std.proofs.Common.{◌≡◌, ◌⊎◌, map, bit_or, ◌≢◌, ◌↔◌, ℕ, ◌+◌, ◌%◌, Bool, true, false, eqb, not, ◌&&◌, ◌||◌, cond, List, [], ◌∷◌, refl, ap, sym, ◌∙◌, inl, inr, arith, subst, Contains}
use Rattle.std.specs.Prelude.{count_by}
use Rattle.std.specs.List.{filter}
use Rattle.std.proofs.lemmas.Bool.{cases_Bool, false≢true, true≢false, not-true}
use Rattle.std.proofs.lemmas.Bool.Decides.{eqb_tells}
use Rattle.std.proofs.lemmas.List.Elements.{Contains-append_cases, All-contains, filter_passes}
use Rattle.std.proofs.lemmas.List.Kept.{AllPairs-filter}
use Rattle.std.proofs.lemmas.List.Folds.{list_any-append}
use Rattle.list_laws.proofs.Counts.{one_if, count_by-cons}
use Rattle.list_laws.proofs.Members.{Contains-from_map, Contains-cons_head, Contains-cons_tail, Contains-cons_cases, AllPairs-append}
use Rattle.list_laws.proofs.Once.{Once, Contains-nil, Contains-from_filter, Once-nil, Once-single}
use Rattle.gadget_model.specs.Bits.{add}
use Rattle.gadget_model.specs.Polynomials.{stands_in, symmetric_difference, odd_ones, unions}

-- the test of a monomial says whether it stands in the polynomial
pub stands_in-from_Contains : (p : List ℕ) (m : ℕ) → Contains p m → stands_in m p ≡ true
stands_in-from_Contains [] m h = absurd (Contains-nil m h)
stands_in-from_Contains (w ∷ p) m h = elim (eqb_tells w m) [
  | inl same ↦ ap (λ (b : Bool). b || stands_in m p) same.0
  | inr other ↦ elim (Contains-cons_cases w p m h) [
    | inl e ↦ absurd (other.1 e)
    | inr k ↦ ap (λ (b : Bool). b || stands_in m p) other.0 ∙ stands_in-from_Contains p m k
  ]
]

-- what passes the test stands there
pub Contains-from_stands_in : (p : List ℕ) (m : ℕ) → stands_in m p ≡ true → Contains p m
Contains-from_stands_in [] m h = absurd (false≢true h)
Contains-from_stands_in (w ∷ p) m h = elim (eqb_tells w m) [
  | inl same ↦ subst (Contains (w ∷ p)) same.1 (Contains-cons_head w p)
  | inr other ↦ Contains-cons_tail w p m (Contains-from_stands_in p m (sym (ap (λ (b : Bool). b || stands_in m p) other.0) ∙ h))
]

-- what fails the test doesn't stand there
pub stands_in-false : (p : List ℕ) (m : ℕ) → stands_in m p ≡ false → Contains p m → ⊥
stands_in-false p m h k = true≢false (sym (stands_in-from_Contains p m k) ∙ h)

-- what doesn't stand there fails the test
pub stands_in-from_not_Contains : (p : List ℕ) (m : ℕ) → (Contains p m → ⊥) → stands_in m p ≡ false
stands_in-from_not_Contains p m h = elim (cases_Bool (stands_in m p)) [ inl t ↦ absurd (h (Contains-from_stands_in p m t)) | inr f ↦ f ]

-- two polynomials with the same monomials pass the test alike
pub stands_in-same : (p q : List ℕ) → ((m : ℕ) → Contains p m ↔ Contains q m) → (m : ℕ) → stands_in m p ≡ stands_in m q
stands_in-same p q same m = elim (cases_Bool (stands_in m p)) [
  | inl t ↦ t ∙ sym (stands_in-from_Contains q m ((same m).0 (Contains-from_stands_in p m t)))
  | inr f ↦ f ∙ sym (stands_in-from_not_Contains q m (λ k. stands_in-false p m f ((same m).1 k)))
]

-- a monomial is kept where it stands and passes the test
stands_in-kept : (t : ℕ → Bool) (p : List ℕ) (m : ℕ) → stands_in m (filter t p) ≡ (stands_in m p && t m)
stands_in-kept t [] m = refl
stands_in-kept t (w ∷ p) m =
    let i = stands_in-kept t p m in
    elim (cases_Bool (t w)) [
      | inl keeps ↦
          let e = ap (λ (b : Bool). stands_in m (cond b (w ∷ filter t p) (filter t p))) keeps in
          elim (eqb_tells w m) [
            | inl same ↦ let k = ap t same.1 in grind arith
            | inr other ↦ grind arith
          ]
      | inr drops ↦
          let e = ap (λ (b : Bool). stands_in m (cond b (w ∷ filter t p) (filter t p))) drops in
          elim (eqb_tells w m) [
            | inl same ↦ let k = ap t same.1 in grind arith
            | inr other ↦ grind arith
          ]
    ]

-- exactly one of two
add-either : (a b : Bool) → ((a && not b) || (b && not a)) ≡ add a b
add-either true true = refl
add-either true false = refl
add-either false true = refl
add-either false false = refl

-- a monomial is in the symmetric difference where it is in exactly one of the two
pub stands_in-symmetric_difference : (p q : List ℕ) (m : ℕ) → stands_in m (symmetric_difference p q) ≡ add (stands_in m p) (stands_in m q)
stands_in-symmetric_difference p q m =
    let front = filter (λ w. not (stands_in w q)) p in
    let back = filter (λ w. not (stands_in w p)) q in
    list_any-append (λ w. eqb w m) front back
    ∙ ap (λ (b : Bool). b || stands_in m back) (stands_in-kept (λ w. not (stands_in w q)) p m)
    ∙ ap (λ (b : Bool). (stands_in m p && not (stands_in m q)) || b) (stands_in-kept (λ w. not (stands_in w p)) q m)
    ∙ add-either (stands_in m p) (stands_in m q)

-- the symmetric difference of two sets has no repeats
pub once-symmetric_difference : (p q : List ℕ) → Once p → Once q → Once (symmetric_difference p q)
once-symmetric_difference p q once once' =
    let not_in : List ℕ → ℕ → Bool = λ r w. not (stands_in w r) in
    AllPairs-append (λ (a b : ℕ). a ≢ b) (filter (not_in q) p) (filter (not_in p) q)
    (AllPairs-filter (λ (a b : ℕ). a ≢ b) (not_in q) p once)
    (AllPairs-filter (λ (a b : ℕ). a ≢ b) (not_in p) q once')
    (λ x y h k e.
    let misses = not-true (stands_in x q) (All-contains (λ w. not_in q w ≡ true) (filter (not_in q) p) x (filter_passes (not_in q) p) h) in
    stands_in-false q x misses (subst (Contains q) (sym e) (Contains-from_filter (not_in p) q y k)))

-- the odd ones have no repeats, whatever the list
pub once-odd_ones : (ms : List ℕ) → Once (odd_ones ms)
once-odd_ones [] = Once-nil
once-odd_ones (m ∷ ms) =
    once-symmetric_difference (m ∷ []) (odd_ones ms) (Once-single m) (once-odd_ones ms)

-- one more makes odd of even and even of odd
pub odd-more : (b : Bool) (n : ℕ) → eqb ((one_if b + n) % 2) 1 ≡ add b (eqb (n % 2) 1)
odd-more false n = let e : 0 + n ≡ n = omega arith in ap (λ (k : ℕ). eqb (k % 2) 1) e
odd-more true n = elim (eqb_tells (n % 2) 1) [
  | inl odd ↦ let e : (1 + n) % 2 ≡ 0 = omega (arith, odd.1) in ap (λ (k : ℕ). eqb k 1) e ∙ sym (ap not odd.0)
  | inr even ↦ let e : (1 + n) % 2 ≡ 1 = omega (arith, even.1) in ap (λ (k : ℕ). eqb k 1) e ∙ sym (ap not even.0)
]

-- the odd ones are those that stand in the list an odd number of times
pub stands_in-odd_ones : (ms : List ℕ) (m : ℕ) → stands_in m (odd_ones ms) ≡ eqb (count_by (λ w. eqb w m) ms % 2) 1
stands_in-odd_ones [] m = refl
stands_in-odd_ones (w ∷ ms) m =
    let test : ℕ → Bool = λ z. eqb z m in
    let alone : stands_in m (w ∷ []) ≡ eqb w m = elim (eqb_tells w m) [
      | inl same ↦ ap (λ (b : Bool). b || false) same.0 ∙ sym same.0
      | inr other ↦ ap (λ (b : Bool). b || false) other.0 ∙ sym other.0
    ] in
    stands_in-symmetric_difference (w ∷ []) (odd_ones ms) m
    ∙ ap (λ (b : Bool). add b (stands_in m (odd_ones ms))) alone
    ∙ ap (add (eqb w m)) (stands_in-odd_ones ms m)
    ∙ sym (odd-more (eqb w m) (count_by test ms))
    ∙ sym (ap (λ (k : ℕ). eqb (k % 2) 1) (count_by-cons test w ms))

-- what stands in a symmetric difference stands in one of the two
pub Contains-from_symmetric_difference : (p q : List ℕ) (m : ℕ) → Contains (symmetric_difference p q) m → Contains p m ⊎ Contains q m
Contains-from_symmetric_difference p q m h =
    let not_in : List ℕ → ℕ → Bool = λ r w. not (stands_in w r) in
    elim (Contains-append_cases (filter (not_in q) p) (filter (not_in p) q) m h) [
      | inl k ↦ inl (Contains-from_filter (not_in q) p m k)
      | inr k ↦ inr (Contains-from_filter (not_in p) q m k)
    ]

-- each of the odd ones stands in the list
pub Contains-from_odd_ones : (ms : List ℕ) (m : ℕ) → Contains (odd_ones ms) m → Contains ms m
Contains-from_odd_ones [] m h = h
Contains-from_odd_ones (w ∷ ms) m h = elim (Contains-from_symmetric_difference (w ∷ []) (odd_ones ms) m h) [
  | inl k ↦ elim (Contains-cons_cases w [] m k) [
    | inl e ↦ subst (Contains (w ∷ ms)) e (Contains-cons_head w ms)
    | inr none ↦ absurd (Contains-nil m none)
  ]
  | inr k ↦ Contains-cons_tail w ms m (Contains-from_odd_ones ms m k)
]

-- each union is one of a monomial of the one and a monomial of the other
pub Contains-from_unions : (p q : List ℕ) (m : ℕ) → Contains (unions p q) m → (a : ℕ) × (b : ℕ) × Contains p a × Contains q b × (bit_or a b ≡ m)
Contains-from_unions [] q m h = absurd (Contains-nil m h)
Contains-from_unions (a ∷ p) q m h = elim (Contains-append_cases (map (bit_or a) q) (unions p q) m h) [
  | inl k ↦ let r = Contains-from_map (bit_or a) q m k in (a, r.0, Contains-cons_head a p, r.1, r.2)
  | inr k ↦ let r = Contains-from_unions p q m k in (r.0, r.1, Contains-cons_tail a p r.0 r.2, r.3, r.4)
]
