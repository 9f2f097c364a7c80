-- The numbers of ways to choose wires of one item.
use Rattle.std.proofs.Common.{◌≡◌, ℕ, zero, suc, ◌+◌, ◌-◌, ◌*◌, ◌/◌, ◌^◌, ◌<◌, ◌≤◌, List, length, get_or, set, refl, ap, sym, ◌∙◌, inl, inr, arith, mul-le-mul}
use Rattle.std.specs.Prelude.{slice_index}
use Rattle.std.proofs.Math.Nat.{pow-le-pow_left, pow-le-pow_right}
use Rattle.std.proofs.lemmas.Bool.{cases_eq}
use Rattle.std.proofs.lemmas.List.{get_or-set_same, get_or-set_other}
use Rattle.tuple_order.proofs.Counting.{ways, ways-next, length-rising}
use Rattle.wire_counts.specs.Ways.{AreBinomials}
use Rattle.wire_counts.proofs.Bounds.{ways-pow}

ways-one : (n : ℕ) → ways 1 n ≡ n
ways-one zero = refl
ways-one (suc n) = let i = ways-one n in omega arith

-- the first numbers are known
abbrev pub AreWays : List ℕ → ℕ → ℕ → Type 0
AreWays numbers known weight = (more : ℕ) → more < known → slice_index numbers more ≡ ways (suc more) weight

pub weight-from_ways : (numbers : List ℕ) (known weight : ℕ) → 6 ≤ known → AreWays numbers known weight → slice_index numbers 0 ≡ weight
weight-from_ways numbers known weight l h = h 0 (omega arith) ∙ ways-one weight

pub AreBinomials-from_ways : (numbers : List ℕ) (known weight : ℕ) → 6 ≤ known → AreWays numbers known weight → AreBinomials numbers
AreBinomials-from_ways numbers known weight l h more m =
    h more (omega arith) ∙ ap (ways (suc more)) (sym (weight-from_ways numbers known weight l h)) ∙ sym (length-rising (suc more) (slice_index numbers 0) 0)

-- one number more
pub AreWays-next : (numbers : List ℕ) (place weight number : ℕ) → place < length numbers → number ≡ ways (place + 1) weight →
    AreWays numbers place weight → AreWays (set numbers place number) (place + 1) weight
AreWays-next numbers place weight number l e h more m = elim (cases_eq more place) [
  | inl same ↦
      ap (λ (k : ℕ). get_or (set numbers place number) k 0) same ∙ get_or-set_same numbers place number 0 l ∙ e
      ∙ ap (λ (k : ℕ). ways k weight) (let f : place + 1 ≡ suc more = omega arith in f)
  | inr other ↦ get_or-set_other numbers place more number 0 other ∙ h more (omega arith)
]

module _ (weight place of_size lacking : ℕ) (known : of_size ≡ ways place weight) (lack : lacking ≡ weight - place) where
  pub ways-product : weight ≤ 4096 → place < 6 → of_size * lacking < 2 ^ 128
  ways-product small l =
      let a = ways-pow place weight in
      let b = pow-le-pow_left {n = weight} {m = 4096} small place in
      let c : 4096 ^ place ≤ 4096 ^ 6 = pow-le-pow_right {n = 4096} (omega arith) {i = place} {j = 6} (omega arith) in
      let d : of_size ≤ 4096 ^ 6 = omega arith in
      let e : of_size * lacking ≤ 4096 ^ 6 * 4096 = mul-le-mul d (let f : lacking ≤ 4096 = omega arith in f) in
      omega arith

  pub ways-divided : (divisor : ℕ) → divisor ≡ place → of_size * lacking / (divisor + 1) ≡ ways (place + 1) weight
  ways-divided divisor e =
      ap (λ (n : ℕ). n * lacking / (divisor + 1)) known ∙ ap (λ (n : ℕ). ways place weight * n / (divisor + 1)) lack
      ∙ ap (λ (n : ℕ). ways place weight * (weight - place) / (n + 1)) e ∙ ways-next place weight
