-- Digits that are the decimal text of a number.
use Rattle.std.proofs.Common.{◌≡◌, ◌≤◌, ◌<◌, ◌+◌, ◌-◌, ◌*◌, ◌/◌, ◌%◌, ◌^◌, ℕ, true, ◌&&◌, List, [], ◌∷◌, ◌++◌, Decides, refl, sym, ap, ◌∙◌, append_assoc, append-nil, arith, ltb}
use Rattle.std.specs.Prelude.{decimal}
use Rattle.std.specs.Char.{is_ascii_digit}
use Rattle.std.proofs.Math.Dec.{leb}
use Rattle.std.proofs.lemmas.Bool.{and_parts, and_from, ltb-true, lt-ltb, leb-true, le-leb}
use Rattle.std.proofs.lemmas.Fmt.{decimal_digit, decimal_step, decimal_by_steps}
use Rattle.gadget_tree.specs.Numerals.{continues_below}

-- the digits are the decimal text of a number above 0 and below a bound
abbrev pub IsNumberBelow : ℕ → List ℕ → Type 0
IsNumberBelow bound ds = (k : ℕ) × (1 ≤ k) × (k < bound) × (ds ≡ decimal k)

-- what a digit is
digit_is : (d : ℕ) → is_ascii_digit d ≡ true → (48 ≤ d) × (d ≤ 57)
digit_is d e =
    let p = and_parts (leb 48 d) (leb d 57) e in
    (leb-true 48 d p.0, leb-true d 57 p.1)

is_digit : (d : ℕ) → 48 ≤ d → d ≤ 57 → is_ascii_digit d ≡ true
is_digit d low high = and_from (leb 48 d) (leb d 57) (le-leb 48 d low) (le-leb d 57 high)

-- one more digit makes a number longer
decimal-push : (n d : ℕ) → 1 ≤ n → 48 ≤ d → d ≤ 57 → 10 * n + (d - 48) < 2 ^ 64 → decimal (10 * n + (d - 48)) ≡ decimal n ++ d ∷ []
decimal-push n d some low high small =
    let q : (10 * n + (d - 48)) / 10 ≡ n = omega arith in
    let r : 48 + (10 * n + (d - 48)) % 10 ≡ d = omega arith in
    decimal_step (10 * n + (d - 48)) (omega arith) small ∙ ap (λ (k : ℕ). decimal k ++ (48 + (10 * n + (d - 48)) % 10) ∷ []) q ∙ ap (λ (k : ℕ). decimal n ++ k ∷ []) r

-- what holds of a digit that continues a number
record Continues (bound n d : ℕ) (ds : List ℕ) : Type 0 where
  low : 48 ≤ d
  high : d ≤ 57
  some : 1 ≤ 10 * n + (d - 48)
  less : 10 * n + (d - 48) < bound
  further : continues_below bound (10 * n + (d - 48)) ds ≡ true

continues : (bound n d : ℕ) (ds : List ℕ) → continues_below bound n (d ∷ ds) ≡ true → Continues bound n d ds
continues bound n d ds e =
    let m = 10 * n + (d - 48) in
    let p = and_parts ((is_ascii_digit d && ltb 0 m) && ltb m bound) (continues_below bound m ds) e in
    let q = and_parts (is_ascii_digit d && ltb 0 m) (ltb m bound) p.0 in
    let r = and_parts (is_ascii_digit d) (ltb 0 m) q.0 in
    let digit = digit_is d r.0 in
    record { low = digit.0; high = digit.1; some = ltb-true 0 m r.1; less = ltb-true m bound q.1; further = p.1 }

-- such a digit is read
reads : (bound n d m : ℕ) (ds : List ℕ) → m ≡ 10 * n + (d - 48) → 48 ≤ d → d ≤ 57 → 1 ≤ m → m < bound → continues_below bound n (d ∷ ds) ≡ continues_below bound m ds
reads bound n d m ds e low high some less =
    rw (is_digit d low high, ← e, lt-ltb 0 m some, lt-ltb m bound less) refl

-- digits that continue a number make it a longer one
continued : (bound n : ℕ) (ds : List ℕ) → bound ≤ 2 ^ 64 → 1 ≤ n → n < bound → continues_below bound n ds ≡ true → (k : ℕ) × (1 ≤ k) × (k < bound) × (decimal n ++ ds ≡ decimal k)
continued bound n [] small some less e = (n, some, less, append-nil (decimal n))
continued bound n (d ∷ ds) small some less e =
    let h = continues bound n d ds e in
    let r = continued bound (10 * n + (d - 48)) ds small h.some h.less h.further in
    (r.0, r.1, r.2, sym (append_assoc (decimal n) (d ∷ []) ds) ∙ ap (λ (xs : List ℕ). xs ++ ds) (sym (decimal-push n d some h.low h.high (omega (arith, h.less)))) ∙ r.3)

-- a number's digits lead to it
Leads : ℕ → ℕ → List ℕ → Type 0
Leads bound k xs = 1 ≤ k → k < bound → (ds : List ℕ) → continues_below bound 0 (xs ++ ds) ≡ continues_below bound k ds

leads : (bound k : ℕ) → bound ≤ 2 ^ 64 → 1 ≤ k → k < bound → (ds : List ℕ) → continues_below bound 0 (decimal k ++ ds) ≡ continues_below bound k ds
unfolding Leads
leads bound k small some less ds =
    decimal_by_steps (Leads bound)
    (λ n l s b xs. reads bound 0 (48 + n) n xs (omega arith) (omega arith) (omega arith) s b)
    (λ n xs l h s b ys. ap (continues_below bound 0) (append_assoc xs ((48 + n % 10) ∷ []) ys) ∙ h (omega arith) (omega arith) ((48 + n % 10) ∷ ys)
    ∙ reads bound (n / 10) (48 + n % 10) n ys (omega arith) (omega arith) (omega arith) s b)
    k (omega arith) some less ds

-- the digits are such a number
is_number : (bound : ℕ) (ds : List ℕ) → bound ≤ 2 ^ 64 → continues_below bound 0 ds ≡ true → IsNumberBelow bound ds
is_number bound [] small e = absurd cc
is_number bound (d ∷ ds) small e =
    let h = continues bound 0 d ds e in
    let r = continued bound (10 * 0 + (d - 48)) ds small h.some h.less h.further in
    let m : 10 * 0 + (d - 48) ≡ d - 48 = omega arith in
    let n : 48 + (d - 48) ≡ d = omega (arith, h.low) in
    (r.0, r.1, r.2, ap (λ (xs : List ℕ). xs ++ ds) (sym (ap decimal m ∙ decimal_digit (d - 48) (omega (arith, h.high)) ∙ ap (λ (k : ℕ). k ∷ []) n)) ∙ r.3)

-- the walk finds whether digits are such a number
pub number-Decides : (bound : ℕ) (ds : List ℕ) → bound ≤ 2 ^ 64 → Decides (continues_below bound 0 ds) (IsNumberBelow bound ds)
number-Decides bound ds small =
    (is_number bound ds small, λ h. ap (continues_below bound 0) (h.3 ∙ sym (append-nil (decimal h.0))) ∙ leads bound h.0 small h.1 h.2 [] ∙ lt-ltb 0 h.0 h.1)
