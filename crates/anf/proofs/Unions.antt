-- Unions of two monomials of at most two variables: the variables that end them, put in order and each once.
use Rattle.std.proofs.Common.{◌≡◌, ℕ, zero, suc, ◌-◌, ◌^◌, ◌<◌, ◌≤◌, true, false, cond, eqb, min, max, List, [], ◌∷◌, length, ap, sym, ◌∙◌, inl, inr, arith}
use Rattle.std.specs.Prelude.{bit_or, slice_index}
use Rattle.std.specs.Int.{bit_at}
use Rattle.std.specs.Int.Bits.{or_zero_r, or_self}
use Rattle.std.specs.List.{dedup_from}
use Rattle.std.specs.List.Sorted.{IsSorted}
use Rattle.std.specs.Ordering.{nat_cmp, is_lt}
use Rattle.std.specs.Cmp.{nat_cmp_is}
use Rattle.std.specs.declared.cmp.Ordering.TheVariants.{Equal, Greater}
use Rattle.std.proofs.lemmas.Bool.{cases_eq, cases_lt}
use Rattle.std.proofs.lemmas.List.Elements.{All-cons, All-nil}
use Rattle.std.proofs.lemmas.List.Filters.{All-dedup}
use Rattle.std.proofs.lemmas.List.Kept.{Contains-dedup_nat, Contains-from_dedup}
use Rattle.std.proofs.lemmas.Map.Keys.{IsStrictlyIncreasing-dedup}
use Rattle.std.proofs.lemmas.Nat.{or_comm}
use Rattle.std.proofs.lemmas.Nat.Bits.{bit_at-lt, bit_at_or, same_from_bits}
use Rattle.anf.specs.Polynomials.{set_of}
use Rattle.anf.specs.Keys.{each_once, HaveKey}
use Rattle.anf.specs.Monomials.{IsFactor}
use Rattle.anf.proofs.Sets.{bit_from_Contains, Contains-from_bit}

-- two sets with the same variables are the same
same_sets : (m n : ℕ) → ((v : ℕ) → bit_at m v ≡ 1 → bit_at n v ≡ 1) → ((v : ℕ) → bit_at n v ≡ 1 → bit_at m v ≡ 1) → m ≡ n
same_sets m n to back = same_from_bits m n (λ v.
    let l = bit_at-lt m v in
    let k = bit_at-lt n v in
    elim (cases_eq (bit_at m v) 1) [
      | inl one ↦ one ∙ sym (to v one)
      | inr none ↦ elim (cases_eq (bit_at n v) 1) [ inl one ↦ absurd (none (back v one)) | inr none' ↦ omega arith ]
    ])

-- digits each once are the same set
pub set_of-each_once : (ds : List ℕ) → set_of (each_once ds) ≡ set_of ds
set_of-each_once ds =
    same_sets (set_of (each_once ds)) (set_of ds)
    (λ v h. bit_from_Contains ds v (Contains-from_dedup eqb ds v (Contains-from_bit (each_once ds) v h)))
    (λ v h. bit_from_Contains (each_once ds) v (Contains-dedup_nat ds v (Contains-from_bit ds v h)))

-- the first element stays, and of the others no more are left than there are
length-dedup_from : (k : ℕ) (xs : List ℕ) → (0 < length (dedup_from eqb k xs)) × (length (dedup_from eqb k xs) ≤ suc (length xs))
length-dedup_from k [] = (omega arith, omega arith)
length-dedup_from k (x ∷ xs) =
    let i = length-dedup_from k xs in
    let j = length-dedup_from x xs in
    elim (eqb x k) as (λ b. (0 < length (cond b (dedup_from eqb k xs) (k ∷ dedup_from eqb x xs)))
    × (length (cond b (dedup_from eqb k xs) (k ∷ dedup_from eqb x xs)) ≤ suc (suc (length xs)))) [
      | true ↦ (i.0, omega (arith, i.1))
      | false ↦ (omega arith, omega (arith, j.1))
    ]

-- a number isn't less than one that it isn't below
not_less : (a b : ℕ) → a ≤ b → is_lt (nat_cmp b a) ≡ false
not_less a b l = elim (cases_eq a b) [
  | inl same ↦ sym (ap is_lt (nat_cmp_is b a Equal (sym same)))
  | inr other ↦ sym (ap is_lt (nat_cmp_is b a Greater (omega arith)))
]

IsSorted-four : (a b c d : ℕ) → a ≤ b → b ≤ c → c ≤ d → IsSorted nat_cmp (a ∷ b ∷ c ∷ d ∷ [])
IsSorted-four a b c d k l m zero e low high = not_less a b k
IsSorted-four a b c d k l m (suc zero) e low high = not_less b c l
IsSorted-four a b c d k l m (suc (suc zero)) e low high = not_less c d m
IsSorted-four a b c d k l m (suc (suc (suc n))) e low high = absurd (omega arith)

-- four digits in order, each once, have a key
pub HaveKey-each_once : (a b c d : ℕ) → (a ≤ b) × (b ≤ c) × (c ≤ d) → d < 2 ^ 16 → HaveKey (each_once (a ∷ b ∷ c ∷ d ∷ []))
HaveKey-each_once a b c d order l = let P : ℕ → Type 0 = λ v. v < 2 ^ 16 in record {
  rising = IsStrictlyIncreasing-dedup (a ∷ b ∷ c ∷ d ∷ []) (IsSorted-four a b c d order.0 order.1 order.2);
  some = (length-dedup_from a (b ∷ c ∷ d ∷ [])).0;
  few = (length-dedup_from a (b ∷ c ∷ d ∷ [])).1;
  fit = All-dedup eqb P (a ∷ b ∷ c ∷ d ∷ [])
      (All-cons P a (b ∷ c ∷ d ∷ []) (omega (arith, order, l))
      (All-cons P b (c ∷ d ∷ []) (omega (arith, order, l)) (All-cons P c (d ∷ []) (omega (arith, order, l)) (All-cons P d [] l (All-nil P)))));
}

-- one or two variables are the first and the last one
pub set_of-ends : (vs : List ℕ) → IsFactor vs → set_of vs ≡ bit_or (2 ^ slice_index vs 0) (2 ^ slice_index vs (length vs - 1))
set_of-ends [] h = absurd (let s = h.some in omega arith)
set_of-ends (a ∷ []) h = or_zero_r (2 ^ a) ∙ sym (or_self (2 ^ a))
set_of-ends (a ∷ b ∷ []) h = ap (bit_or (2 ^ a)) (or_zero_r (2 ^ b))
set_of-ends (a ∷ b ∷ c ∷ vs) h = absurd (let f = h.few in omega arith)

pub or_assoc : (a b c : ℕ) → bit_or (bit_or a b) c ≡ bit_or a (bit_or b c)
or_assoc a b c = same_from_bits (bit_or (bit_or a b) c) (bit_or a (bit_or b c)) (λ v.
    omega (arith, bit_at_or (bit_or a b) c v, bit_at_or a b v, bit_at_or a (bit_or b c) v, bit_at_or b c v))

-- the two in the middle change places
or-middle : (a b c d : ℕ) → bit_or (bit_or a b) (bit_or c d) ≡ bit_or (bit_or a c) (bit_or b d)
or-middle a b c d =
    or_assoc a b (bit_or c d)
    ∙ ap (bit_or a) (sym (or_assoc b c d) ∙ ap (λ (n : ℕ). bit_or n d) (or_comm b c) ∙ or_assoc c b d)
    ∙ sym (or_assoc a c (bit_or b d))

-- two variables that an exchange puts in order are the same set
or-in_order : (a b low high : ℕ) → low ≡ min a b → high ≡ max a b → bit_or (2 ^ low) (2 ^ high) ≡ bit_or (2 ^ a) (2 ^ b)
or-in_order a b low high is_low is_high = elim (cases_lt a b) [
  | inl less ↦
      let e : low ≡ a = omega arith in
      let f : high ≡ b = omega arith in
      ap (λ (v : ℕ). bit_or (2 ^ v) (2 ^ high)) e ∙ ap (λ (v : ℕ). bit_or (2 ^ a) (2 ^ v)) f
  | inr more ↦
      let e : low ≡ b = omega arith in
      let f : high ≡ a = omega arith in
      ap (λ (v : ℕ). bit_or (2 ^ v) (2 ^ high)) e ∙ ap (λ (v : ℕ). bit_or (2 ^ b) (2 ^ v)) f ∙ or_comm (2 ^ b) (2 ^ a)
]

-- four variables that three exchanges put in order are the same set
pub set_of-in_order : (a b c d x y low second third high : ℕ) → x ≡ max a c → y ≡ min b d → low ≡ min a c → second ≡ min x y → third ≡ max x y → high ≡ max b d →
    set_of (low ∷ second ∷ third ∷ high ∷ []) ≡ bit_or (bit_or (2 ^ a) (2 ^ b)) (bit_or (2 ^ c) (2 ^ d))
set_of-in_order a b c d x y low second third high is_x is_y is_low is_second is_third is_high =
    let bit : ℕ → ℕ = λ v. 2 ^ v in
    ap (λ (n : ℕ). bit_or (bit low) (bit_or (bit second) (bit_or (bit third) n))) (or_zero_r (bit high))
    ∙ ap (bit_or (bit low))
    (sym (or_assoc (bit second) (bit third) (bit high))
    ∙ ap (λ (n : ℕ). bit_or n (bit high)) (or-in_order x y second third is_second is_third)
    ∙ or_assoc (bit x) (bit y) (bit high))
    ∙ sym (or_assoc (bit low) (bit x) (bit_or (bit y) (bit high)))
    ∙ ap (λ (n : ℕ). bit_or n (bit_or (bit y) (bit high))) (or-in_order a c low x is_low is_x)
    ∙ ap (bit_or (bit_or (bit a) (bit c))) (or-in_order b d y high is_y is_high)
    ∙ or-middle (bit a) (bit c) (bit b) (bit d)
