-- How many shares of an input are in a set.
use Rattle.std.proofs.Common.{◌≡◌, ℕ, zero, suc, ◌+◌, ◌*◌, ◌/◌, ◌%◌, ◌^◌, ◌<◌, ◌≤◌, min, Bool, eqb, refl, ap, sym, ◌∙◌, inl, inr, arith, add-one}
use Rattle.std.specs.Prelude.{count_by, bit_and}
use Rattle.std.specs.List.{range_with_len}
use Rattle.std.specs.Int.{bit_at}
use Rattle.std.specs.Int.Count.{ones, ones_step}
use Rattle.std.proofs.lemmas.Bool.{cases_lt}
use Rattle.std.proofs.lemmas.Bool.Decides.{eqb_tells}
use Rattle.std.proofs.lemmas.Nat.{and_mask, pow-add, ones_le_self}
use Rattle.std.proofs.lemmas.Nat.Bits.{bit_at-lt, bit_at-suc, bit_at_lowest, bit_at_and, bit_at_ones}
use Rattle.std.proofs.Math.Nat.{div-div-eq-div-mul, mod-eq_of_lt}
use Rattle.std.proofs.Math.Pow.{field, mod-mod-pow}
use Rattle.gadget_model.specs.Simulation.{IsWithin}
use Rattle.list_laws.proofs.Counts.{one_if, count_by-cons, count_by-le, count_by-agree}
use Rattle.needed.specs.ShareCounts.{shares_of}

-- whether a number has a bit
abbrev pub has : ℕ → ℕ → Bool
has m i = eqb (bit_at m i) 1

zero_bit : (b : ℕ) → b < 2 → (b ≡ 1 → ⊥) → 0 ≡ b
zero_bit b l n = elim (cases_lt b 1) [ inl less ↦ omega arith | inr most ↦ absurd (n (omega arith)) ]

-- the test of a bit counts as the bit
one_if-has : (m i : ℕ) → one_if (has m i) ≡ bit_at m i
one_if-has m i =
    let l = bit_at-lt m i in
    elim (eqb_tells (bit_at m i) 1) [ inl holds ↦ ap one_if holds.0 ∙ sym holds.1 | inr fails ↦ ap one_if fails.0 ∙ zero_bit (bit_at m i) l fails.1 ]

-- bits from one place higher on are those of the half
count_by-half : (w from m : ℕ) → count_by (has m) (range_with_len (from + 1) w) ≡ count_by (has (m / 2)) (range_with_len from w)
count_by-half zero from m = refl
count_by-half (suc w) from m =
    let e : bit_at m (from + 1) ≡ bit_at (m / 2) from = ap (bit_at m) (add-one from) ∙ bit_at-suc m from in
    count_by-cons (has m) (from + 1) (range_with_len (from + 1 + 1) w)
    ∙ ap (λ (b : ℕ). one_if (eqb b 1) + count_by (has m) (range_with_len (from + 1 + 1) w)) e
    ∙ ap (λ (n : ℕ). one_if (has (m / 2) from) + n) (count_by-half w (from + 1) m)
    ∙ sym (count_by-cons (has (m / 2)) from (range_with_len (from + 1) w))

-- the set bits of the lowest w
ones-mod : (w m : ℕ) → ones (m % 2 ^ w) ≡ count_by (has m) (range_with_len 0 w)
ones-mod zero m = omega (arith, ones_le_self (m % 1))
ones-mod (suc w) m =
    let z : w + 1 ≡ suc w = add-one w in
    let low : m % 2 ^ suc w % 2 ≡ m % 2 = ap (λ (k : ℕ). m % 2 ^ k % 2) (sym z) ∙ mod-mod-pow m w 1 in
    let high : m % 2 ^ suc w / 2 ≡ m / 2 % 2 ^ w = ap (λ (k : ℕ). m % 2 ^ k / 2) (sym z) ∙ field m w 1 in
    ones_step (m % 2 ^ suc w)
    ∙ ap (λ (n : ℕ). n + ones (m % 2 ^ suc w / 2)) low
    ∙ ap (λ (n : ℕ). m % 2 + ones n) high
    ∙ ap (λ (n : ℕ). m % 2 + n) (ones-mod w (m / 2) ∙ sym (count_by-half w 0 m))
    ∙ ap (λ (n : ℕ). n + count_by (has m) (range_with_len (0 + 1) w)) (sym (bit_at_lowest m) ∙ sym (one_if-has m 0))
    ∙ sym (count_by-cons (has m) 0 (range_with_len (0 + 1) w))

bit_at-shift : (n s i : ℕ) → bit_at (n / 2 ^ s) i ≡ bit_at n (s + i)
bit_at-shift n s i = ap (λ (q : ℕ). q % 2) (div-div-eq-div-mul n (2 ^ s) (2 ^ i)) ∙ ap (λ (q : ℕ). n / q % 2) (sym (pow-add 2 s i))

-- what the code counts
pub ones-shares : (set input : ℕ) → ones (bit_and (set / 2 ^ (16 * input)) 65535) ≡ shares_of input set
unfolding shares_of
ones-shares set input =
    ap ones (and_mask (set / 2 ^ (16 * input)) 16)
    ∙ ones-mod 16 (set / 2 ^ (16 * input))
    ∙ count_by-agree (has (set / 2 ^ (16 * input))) (λ i. has set (16 * input + i)) (λ i. ap (λ (b : ℕ). eqb b 1) (bit_at-shift set (16 * input) i)) (range_with_len 0 16)

-- a larger set has at least as many shares of an input
pub shares_of-within : (input small large : ℕ) → IsWithin small large → shares_of input small ≤ shares_of input large
unfolding shares_of
shares_of-within input small large within =
    count_by-le (λ i. has small (16 * input + i)) (λ i. has large (16 * input + i))
    (λ i h. elim (eqb_tells (bit_at small (16 * input + i)) 1) [
      | inl holds ↦ ap (λ (b : ℕ). eqb b 1) (within (16 * input + i) holds.1)
      | inr fails ↦ cc
    ])
    (range_with_len 0 16)

-- a bit that stays
min_one : (b c : ℕ) → b < 2 → c ≡ 1 → min b c ≡ b
min_one b c l e = omega arith

-- the bits of what the code counts
pub bit_at-indices : (set input index : ℕ) → index < 16 → bit_at (bit_and (set / 2 ^ (16 * input)) 65535) index ≡ bit_at set (16 * input + index)
bit_at-indices set input index l =
    let n : ℕ = set / 2 ^ (16 * input) in
    let a : bit_at (bit_and n 65535) index ≡ min (bit_at n index) (bit_at 65535 index) = bit_at_and n 65535 index in
    let o : bit_at 65535 index ≡ 1 = bit_at_ones 16 index l in
    let b : bit_at n index < 2 = bit_at-lt n index in
    let s : bit_at n index ≡ bit_at set (16 * input + index) = bit_at-shift set (16 * input) index in
    a ∙ min_one (bit_at n index) (bit_at 65535 index) b o ∙ s

-- how many bits a number of 16 has
pub ones-count : (m : ℕ) → m < 2 ^ 16 → ones m ≡ count_by (has m) (range_with_len 0 16)
ones-count m small = ap ones (sym (mod-eq_of_lt small)) ∙ ones-mod 16 m
