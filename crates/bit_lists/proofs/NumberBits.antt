-- The bits of numbers that are added without carry.
use Rattle.std.proofs.Common.{◌≡◌, ℕ, ◌+◌, ◌%◌, ◌⊎◌, eqb, ap, sym, ◌∙◌, inl, inr, arith}
use Rattle.std.specs.Prelude.{bit_xor}
use Rattle.std.specs.Int.{bit_at}
use Rattle.std.proofs.lemmas.Nat.{xor_comm}
use Rattle.std.proofs.lemmas.Nat.Bits.{bit_at_xor, bit_at-lt}
use Rattle.std.proofs.lemmas.Bool.{cases_lt}
use Rattle.gadget_model.specs.Bits.{add}

-- a bit is 0 or 1
pub bit_cases : (n i : ℕ) → (bit_at n i ≡ 0) ⊎ (bit_at n i ≡ 1)
bit_cases n i = let h = bit_at-lt n i in elim (cases_lt (bit_at n i) 1) [ inl less ↦ inl (omega arith) | inr most ↦ inr (omega arith) ]

-- a bit that the one lacks is that of the other
pub bit_at-xor_zero : (a b i : ℕ) → bit_at b i ≡ 0 → bit_at (bit_xor a b) i ≡ bit_at a i
bit_at-xor_zero a b i h = elim (bit_cases a i) [
  | inl p ↦ bit_at_xor a b i ∙ ap (λ (u : ℕ). (u + bit_at b i) % 2) p ∙ ap (λ (u : ℕ). (0 + u) % 2) h ∙ sym p
  | inr p ↦ bit_at_xor a b i ∙ ap (λ (u : ℕ). (u + bit_at b i) % 2) p ∙ ap (λ (u : ℕ). (1 + u) % 2) h ∙ sym p
]

-- a bit that both have is gone
pub bit_at-xor_ones : (a b i : ℕ) → bit_at a i ≡ 1 → bit_at b i ≡ 1 → bit_at (bit_xor a b) i ≡ 0
bit_at-xor_ones a b i p h = bit_at_xor a b i ∙ ap (λ (u : ℕ). (u + bit_at b i) % 2) p ∙ ap (λ (u : ℕ). (1 + u) % 2) h

-- exactly one of two numbers has a bit that their sum without carry has
pub has_bit-xor : (a b i : ℕ) → eqb (bit_at (bit_xor a b) i) 1 ≡ add (eqb (bit_at a i) 1) (eqb (bit_at b i) 1)
has_bit-xor a b i = elim (bit_cases b i) [
  | inl q ↦ elim (bit_cases a i) [
    | inl p ↦ let e = bit_at-xor_zero a b i q in cc
    | inr p ↦ let e = bit_at-xor_zero a b i q in cc
  ]
  | inr q ↦ elim (bit_cases a i) [
    | inl p ↦ let e = ap (λ (u : ℕ). bit_at u i) (xor_comm a b) ∙ bit_at-xor_zero b a i p in cc
    | inr p ↦ let e = bit_at-xor_ones a b i p q in cc
  ]
]
