-- A sum of different products depends on each of the bits in their sets: of the sets with the bit, take the least as a number. Where
-- exactly its bits are true, its product alone changes with the bit.
use Rattle.std.proofs.Common.{◌≡◌, ◌≢◌, ℕ, zero, suc, ◌/◌, ◌%◌, ◌^◌, ◌<◌, ◌≤◌, ◌⊎◌, Bool, true, false, not, ◌&&◌, eqb, List, [], ◌∷◌, refl, ap, sym, ◌∙◌, inl, inr, arith, subst, Contains}
use Rattle.std.specs.List.{All, AllPairs}
use Rattle.std.specs.Int.{bit_at}
use Rattle.std.proofs.lemmas.Bool.{cases_Bool, cases_lt, ne_eqb, eq-eqb, eqb-true, false≢true, and_right, not_from_true}
use Rattle.std.proofs.lemmas.List.Elements.{All-contains}
use Rattle.std.proofs.lemmas.Nat.Bits.{bit_at-suc, bit_at_lowest, bit_at_above}
use Rattle.std.proofs.Math.Bool.{and-true}
use Rattle.std.proofs.Math.Nat.{two-pow-succ, div-lt_iff_lt-mul}
use Rattle.list_laws.proofs.Members.{Contains-cons_head, Contains-cons_tail, Contains-cons_cases, AllPairs-head, AllPairs-tail}
use Rattle.gadget_model.specs.Bits.{add}
use Rattle.gadget_model.specs.Polynomials.{set_product, polynomial_value}
use Rattle.bit_lists.proofs.NumberBits.{bit_cases}
use Rattle.simulation_law.proofs.SetProducts.{set_product-agree, true_from_set_product, set_product-true, set_product-false}

-- a set whose bits are all in another is no larger as a number
le_from_within : (n a b : ℕ) → a < 2 ^ n → ((k : ℕ) → bit_at a k ≡ 1 → bit_at b k ≡ 1) → a ≤ b
le_from_within zero a b below within = omega arith
le_from_within (suc n) a b below within =
    let p = two-pow-succ n in
    let below' : a / 2 < 2 ^ n = (div-lt_iff_lt-mul {k = 2} {x = a} {y = 2 ^ n} (omega arith)).1 (omega arith) in
    let high = le_from_within n (a / 2) (b / 2) below' (λ k one. sym (bit_at-suc b k) ∙ within (suc k) (bit_at-suc a k ∙ one)) in
    let e = bit_at_lowest a in
    let e' = bit_at_lowest b in
    let low : a % 2 ≤ b % 2 = elim (bit_cases a 0) [ inl none ↦ omega arith | inr one ↦ let o = within 0 one in omega arith ] in
    omega arith

-- the least of the sets with bit k
record IsLeast (sets : List ℕ) (k least : ℕ) : Type 0 where
  among : Contains sets least
  has : bit_at least k ≡ 1
  below : (set : ℕ) → Contains sets set → bit_at set k ≡ 1 → least ≤ set

-- no set has bit k
abbrev HasNone : List ℕ → ℕ → Type 0
HasNone sets k = (set : ℕ) → Contains sets set → bit_at set k ≡ 0

-- what holds of the first set and of those after it
at_each : (P : ℕ → Type 0) (set : ℕ) (sets : List ℕ) → P set → ((a : ℕ) → Contains sets a → P a) → (a : ℕ) → Contains (set ∷ sets) a → P a
at_each P set sets first others a among = elim (Contains-cons_cases set sets a among) [ inl e ↦ subst P e first | inr rest ↦ others a rest ]

-- a first set that lacks the bit changes nothing
IsLeast-cons_without : (set : ℕ) (sets : List ℕ) (k least : ℕ) → bit_at set k ≡ 0 → IsLeast sets k least → IsLeast (set ∷ sets) k least
IsLeast-cons_without set sets k least none l = record {
  among = Contains-cons_tail set sets least l.among;
  has = l.has;
  below = at_each (λ a. bit_at a k ≡ 1 → least ≤ a) set sets (λ one. absurd (omega arith)) l.below;
}

-- where a first set has the bit, it or the least of the others is the least
IsLeast-cons_with : (set : ℕ) (sets : List ℕ) (k least : ℕ) → bit_at set k ≡ 1 → IsLeast sets k least → (l : ℕ) × IsLeast (set ∷ sets) k l
IsLeast-cons_with set sets k least one l = elim (cases_lt set least) [
  | inl less ↦ (
    set,
    record {
      among = Contains-cons_head set sets;
      has = one;
      below = at_each (λ a. bit_at a k ≡ 1 → set ≤ a) set sets (λ o. omega arith) (λ a among o. let q = l.below a among o in omega arith);
    },
  )
  | inr most ↦ (
    least,
    record {
      among = Contains-cons_tail set sets least l.among;
      has = l.has;
      below = at_each (λ a. bit_at a k ≡ 1 → least ≤ a) set sets (λ o. omega arith) l.below;
    },
  )
]

-- a first set that alone has the bit is the least
IsLeast-cons_first : (set : ℕ) (sets : List ℕ) (k : ℕ) → bit_at set k ≡ 1 → HasNone sets k → IsLeast (set ∷ sets) k set
IsLeast-cons_first set sets k one none = record {
  among = Contains-cons_head set sets;
  has = one;
  below = at_each (λ a. bit_at a k ≡ 1 → set ≤ a) set sets (λ o. omega arith) (λ a among o. absurd (let q = none a among in omega arith));
}

-- some set has the bit, and then there is a least one, or none has it
least_or_none : (sets : List ℕ) (k : ℕ) → ((least : ℕ) × IsLeast sets k least) ⊎ HasNone sets k
least_or_none [] k = inr (λ a among. absurd (omega arith))
least_or_none (set ∷ sets) k = elim (bit_cases set k) [
  | inl none ↦ elim (least_or_none sets k) [
    | inl l ↦ inl (l.0, IsLeast-cons_without set sets k l.0 none l.1)
    | inr others ↦ inr (at_each (λ a. bit_at a k ≡ 0) set sets none others)
  ]
  | inr one ↦ elim (least_or_none sets k) [
    | inl l ↦ inl (IsLeast-cons_with set sets k l.0 one l.1)
    | inr others ↦ inl (set, IsLeast-cons_first set sets k one others)
  ]
]

-- bits at which all products are the same have the same sum
pub polynomial_value-agree : (n : ℕ) (sets : List ℕ) (x x' : ℕ → Bool) → ((set : ℕ) → Contains sets set → set_product n set x ≡ set_product n set x') →
    polynomial_value n sets x ≡ polynomial_value n sets x'
polynomial_value-agree n [] x x' same = refl
polynomial_value-agree n (set ∷ sets) x x' same =
    ap (λ (z : Bool). add z (polynomial_value n sets x)) (same set (Contains-cons_head set sets))
    ∙ ap (add (set_product n set x')) (polynomial_value-agree n sets x x' (λ a among. same a (Contains-cons_tail set sets a among)))

-- b + (1 + c) = 1 + (b + c)
add-not : (b c : Bool) → add b (not c) ≡ not (add b c)
add-not true true = refl
add-not true false = refl
add-not false c = refl

-- where one product alone changes, from true to false, the sum changes
polynomial_value-one_changes : (n : ℕ) (sets : List ℕ) (set : ℕ) (x x' : ℕ → Bool) → AllPairs (λ a b. a ≢ b) sets → Contains sets set →
    set_product n set x ≡ true → set_product n set x' ≡ false →
    ((a : ℕ) → Contains sets a → a ≢ set → set_product n a x ≡ set_product n a x') → polynomial_value n sets x ≡ not (polynomial_value n sets x')
polynomial_value-one_changes n [] set x x' distinct among on off same = absurd (omega arith)
polynomial_value-one_changes n (first ∷ sets) set x x' distinct among on off same =
    let apart : (a : ℕ) → Contains sets a → first ≢ a = λ a member. All-contains (λ b. first ≢ b) sets a (AllPairs-head (λ a b. a ≢ b) first sets distinct) member in
    elim (Contains-cons_cases first sets set among) [
      | inl e ↦
          let rest = polynomial_value-agree n sets x x' (λ a member. same a (Contains-cons_tail first sets a member) (λ q. apart a member (e ∙ sym q))) in
          ap (λ (z : Bool). add z (polynomial_value n sets x)) (ap (λ (m : ℕ). set_product n m x) e ∙ on)
          ∙ ap not (rest ∙ sym (ap (λ (z : Bool). add z (polynomial_value n sets x')) (ap (λ (m : ℕ). set_product n m x') e ∙ off)))
      | inr later ↦
          ap (λ (z : Bool). add z (polynomial_value n sets x)) (same first (Contains-cons_head first sets) (apart set later))
          ∙ ap (add (set_product n first x'))
          (polynomial_value-one_changes n sets set x x' (AllPairs-tail (λ a b. a ≢ b) first sets distinct) later on off
          (λ a member other. same a (Contains-cons_tail first sets a member) other))
          ∙ add-not (set_product n first x') (polynomial_value n sets x')
    ]

-- no bit is its opposite
not-self : (b : Bool) → not b ≢ b
not-self true e = false≢true e
not-self false e = false≢true (sym e)

-- exactly the bits of a set are true
abbrev bits_of : ℕ → ℕ → Bool
bits_of set j = eqb (bit_at set j) 1

-- the same bits, but for bit k, which is false
abbrev without : ℕ → (ℕ → Bool) → ℕ → Bool
without k x j = x j && not (eqb j k)

-- the other bits stay
without-other : (k : ℕ) (x : ℕ → Bool) (j : ℕ) → j ≢ k → x j ≡ without k x j
without-other k x j other = sym (ap (λ (b : Bool). x j && not b) (ne_eqb j k other) ∙ and-true (x j))

-- bit k is false
without-same : (k : ℕ) (x : ℕ → Bool) → without k x k ≡ false
without-same k x = and_right (x k) (not (eqb k k)) (not_from_true (eqb k k) (eq-eqb k k refl))

-- at the bits of the least set with bit k, no product of another set changes with bit k
set_product-other : (n : ℕ) (sets : List ℕ) (k least : ℕ) → All (λ set. set < 2 ^ n) sets → IsLeast sets k least → k < n →
    (set : ℕ) → Contains sets set → set ≢ least → set_product n set (bits_of least) ≡ set_product n set (without k (bits_of least))
set_product-other n sets k least small l less set among other = elim (bit_cases set k) [
  | inl none ↦
      set_product-agree n set (bits_of least) (without k (bits_of least))
      (λ j one. without-other k (bits_of least) j (λ e. let q = ap (bit_at set) e in absurd (omega arith)))
  | inr one ↦ elim (cases_Bool (set_product n set (bits_of least))) [
    | inl holds ↦
        let below : set < 2 ^ n = All-contains (λ a. a < 2 ^ n) sets set small among in
        let le = le_from_within n set least below (λ j o. elim (cases_lt j n) [
          | inl in_range ↦ eqb-true (bit_at least j) 1 (true_from_set_product n set (bits_of least) holds j in_range o)
          | inr past ↦ let z = bit_at_above set n j below past in absurd (omega arith)
        ]) in
        let ge = l.below set among one in
        absurd (other (omega arith))
    | inr fails ↦ fails ∙ sym (set_product-false n set k (without k (bits_of least)) less one (without-same k (bits_of least)))
  ]
]

-- some bits at which the sum changes with bit k
abbrev pub ChangesWith : ℕ → List ℕ → ℕ → Type 0
ChangesWith n sets k =
    (x : ℕ → Bool) × (x' : ℕ → Bool) × ((j : ℕ) → j ≢ k → x j ≡ x' j) × (polynomial_value n sets x ≢ polynomial_value n sets x')

-- the bits of the least set are such bits
ChangesWith-least : (n : ℕ) (sets : List ℕ) (k least : ℕ) → All (λ set. set < 2 ^ n) sets → AllPairs (λ a b. a ≢ b) sets → IsLeast sets k least →
    ChangesWith n sets k
ChangesWith-least n sets k least small distinct l =
    let x = bits_of least in
    let less : k < n = elim (cases_lt k n) [
      | inl in_range ↦ in_range
      | inr past ↦ let z = bit_at_above least n k (All-contains (λ a. a < 2 ^ n) sets least small l.among) past in let o = l.has in absurd (omega arith)
    ] in
    let e = polynomial_value-one_changes n sets least x (without k x) distinct l.among
    (set_product-true n least x (λ j one. eq-eqb (bit_at least j) 1 one))
    (set_product-false n least k (without k x) less l.has (without-same k x))
    (set_product-other n sets k least small l less) in
    (x, without k x, without-other k x, (λ q. not-self (polynomial_value n sets (without k x)) (sym e ∙ q)))

-- a sum of different products changes with each bit that is in one of their sets
pub ChangesWith-each : (n : ℕ) (sets : List ℕ) (set k : ℕ) → All (λ a. a < 2 ^ n) sets → AllPairs (λ a b. a ≢ b) sets → Contains sets set →
    bit_at set k ≡ 1 → ChangesWith n sets k
ChangesWith-each n sets set k small distinct among one = elim (least_or_none sets k) [
  | inl l ↦ ChangesWith-least n sets k l.0 small distinct l.1
  | inr none ↦ absurd (let q = none set among in omega arith)
]
