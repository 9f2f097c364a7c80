-- Sums of bits over sets are linear in the set and in the bits.
use Rattle.std.proofs.Common.{◌≡◌, ℕ, zero, suc, ◌^◌, ◌<◌, ◌≤◌, Bool, false, ◌&&◌, eqb, refl, ap, ◌∙◌, inl, inr, arith}
use Rattle.std.specs.Prelude.{bit_xor}
use Rattle.std.specs.Int.{bit_at}
use Rattle.std.proofs.Math.Bool.{and-false, and-true}
use Rattle.std.proofs.lemmas.Bool.{cases_lt, cases_eq}
use Rattle.std.proofs.lemmas.Bool.Decides.{eqb_tells}
use Rattle.std.proofs.lemmas.Nat.Bits.{bit_at-zero, bit_at-pow_same, bit_at-pow_other}
use Rattle.gadget_model.specs.Bits.{add}
use Rattle.gadget_model.proofs.Sums.{add-false, add-middle, and-add_left}
use Rattle.bit_lists.specs.SetSums.{set_sum}
use Rattle.bit_lists.proofs.BitLists.{and-add_right}
use Rattle.bit_lists.proofs.NumberBits.{has_bit-xor}

-- bits that are the same below n have the same sums
pub set_sum-along : (n set : ℕ) (a b : ℕ → Bool) → ((k : ℕ) → k < n → a k ≡ b k) → set_sum n set a ≡ set_sum n set b
set_sum-along zero set a b same = refl
set_sum-along (suc n) set a b same =
    ap (λ (s : Bool). add s (eqb (bit_at set n) 1 && a n)) (set_sum-along n set a b (λ k l. same k (omega arith)))
    ∙ ap (λ (c : Bool). add (set_sum n set b) (eqb (bit_at set n) 1 && c)) (same n (omega arith))

-- the empty set has the sum false
pub set_sum-zero : (n : ℕ) (bits : ℕ → Bool) → set_sum n 0 bits ≡ false
set_sum-zero zero bits = refl
set_sum-zero (suc n) bits =
    ap (λ (s : Bool). add s (eqb (bit_at 0 n) 1 && bits n)) (set_sum-zero n bits)
    ∙ ap (λ (b : ℕ). eqb b 1 && bits n) (bit_at-zero n)

-- bit k alone is true
abbrev pub only : ℕ → ℕ → Bool
only k j = eqb j k

set_sum-only_past : (n set k : ℕ) → n ≤ k → set_sum n set (only k) ≡ false
set_sum-only_past zero set k l = refl
set_sum-only_past (suc n) set k l =
    ap (λ (s : Bool). add s (eqb (bit_at set n) 1 && eqb n k)) (set_sum-only_past n set k (omega arith))
    ∙ elim (eqb_tells n k) [
      | inl same ↦ absurd (let e = same.1 in omega arith)
      | inr other ↦ ap (λ (b : Bool). eqb (bit_at set n) 1 && b) other.0 ∙ and-false (eqb (bit_at set n) 1)
    ]

-- where bit k alone is true, the sum tells whether the set has k
pub set_sum-only : (n set k : ℕ) → k < n → set_sum n set (only k) ≡ eqb (bit_at set k) 1
set_sum-only zero set k l = absurd (omega arith)
set_sum-only (suc n) set k l = elim (eqb_tells n k) [
  | inl same ↦
      ap (λ (s : Bool). add s (eqb (bit_at set n) 1 && eqb n k)) (set_sum-only_past n set k (let e = same.1 in omega arith))
      ∙ ap (λ (b : Bool). eqb (bit_at set n) 1 && b) same.0
      ∙ and-true (eqb (bit_at set n) 1)
      ∙ ap (λ (j : ℕ). eqb (bit_at set j) 1) same.1
  | inr other ↦
      ap (λ (b : Bool). add (set_sum n set (only k)) (eqb (bit_at set n) 1 && b)) other.0
      ∙ ap (add (set_sum n set (only k))) (and-false (eqb (bit_at set n) 1))
      ∙ add-false (set_sum n set (only k))
      ∙ set_sum-only n set k (let e = other.1 in elim (cases_lt k n) [ inl less ↦ less | inr most ↦ absurd (e (omega arith)) ])
]

set_sum-pow_past : (n k : ℕ) (x : ℕ → Bool) → n ≤ k → set_sum n (2 ^ k) x ≡ false
set_sum-pow_past zero k x l = refl
set_sum-pow_past (suc n) k x l =
    ap (λ (s : Bool). add s (eqb (bit_at (2 ^ k) n) 1 && x n)) (set_sum-pow_past n k x (omega arith))
    ∙ ap (λ (b : ℕ). eqb b 1 && x n) (bit_at-pow_other k n (λ e. absurd (omega arith)))

-- the set of k alone has the sum of bit k
pub set_sum-pow : (n k : ℕ) (x : ℕ → Bool) → k < n → set_sum n (2 ^ k) x ≡ x k
set_sum-pow zero k x l = absurd (omega arith)
set_sum-pow (suc n) k x l = elim (cases_eq n k) [
  | inl same ↦
      ap (λ (s : Bool). add s (eqb (bit_at (2 ^ k) n) 1 && x n)) (set_sum-pow_past n k x (omega arith))
      ∙ ap (λ (j : ℕ). eqb (bit_at (2 ^ k) j) 1 && x j) same
      ∙ ap (λ (b : ℕ). eqb b 1 && x k) (bit_at-pow_same k)
  | inr other ↦
      ap (λ (b : ℕ). add (set_sum n (2 ^ k) x) (eqb b 1 && x n)) (bit_at-pow_other k n other)
      ∙ add-false (set_sum n (2 ^ k) x)
      ∙ set_sum-pow n k x (elim (cases_lt k n) [ inl less ↦ less | inr most ↦ absurd (other (omega arith)) ])
]

-- the sum over the numbers in exactly one of two sets
pub set_sum-xor : (n a b : ℕ) (x : ℕ → Bool) → set_sum n (bit_xor a b) x ≡ add (set_sum n a x) (set_sum n b x)
set_sum-xor zero a b x = refl
set_sum-xor (suc n) a b x =
    ap (λ (s : Bool). add s (eqb (bit_at (bit_xor a b) n) 1 && x n)) (set_sum-xor n a b x)
    ∙ ap (add (add (set_sum n a x) (set_sum n b x)))
    (ap (λ (h : Bool). h && x n) (has_bit-xor a b n) ∙ and-add_left (eqb (bit_at a n) 1) (eqb (bit_at b n) 1) (x n))
    ∙ add-middle (set_sum n a x) (set_sum n b x) (eqb (bit_at a n) 1 && x n) (eqb (bit_at b n) 1 && x n)

-- the sum of bits that are sums
pub set_sum-add : (n set : ℕ) (a b : ℕ → Bool) → set_sum n set (λ k. add (a k) (b k)) ≡ add (set_sum n set a) (set_sum n set b)
set_sum-add zero set a b = refl
set_sum-add (suc n) set a b =
    ap (λ (s : Bool). add s (eqb (bit_at set n) 1 && add (a n) (b n))) (set_sum-add n set a b)
    ∙ ap (add (add (set_sum n set a) (set_sum n set b))) (and-add_right (eqb (bit_at set n) 1) (a n) (b n))
    ∙ add-middle (set_sum n set a) (set_sum n set b) (eqb (bit_at set n) 1 && a n) (eqb (bit_at set n) 1 && b n)
