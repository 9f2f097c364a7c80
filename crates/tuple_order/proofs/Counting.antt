-- How many tuples there are of a size, from how many there are of the size below.
use Rattle.std.proofs.Common.{◌≡◌, ℕ, zero, suc, ◌+◌, ◌-◌, ◌*◌, ◌/◌, ◌^◌, ◌<◌, ◌≤◌, List, ◌∷◌, map, length, refl, ap, sym, ◌∙◌, inl, inr, arith, subst, length-append, mul-add, add-mul, suc-mul, mul-suc, mul-zero, zero-mul, mul-le-mul, pow_mono}
use Rattle.std.proofs.Math.Nat.{mul-div_cancel_left, mul-le-mul_right}
use Rattle.std.proofs.lemmas.Nat.{pow-add}
use Rattle.std.proofs.Math.ListN.{length-map}
use Rattle.std.proofs.lemmas.Bool.{cases_lt}
use Rattle.tuple_model.specs.Tuples.{rising, tuples}

-- how many ways there are to choose so many of the items
abbrev pub ways : ℕ → ℕ → ℕ
ways zero items = 1
ways (suc size) zero = 0
ways (suc size) (suc items) = ways size items + ways (suc size) items

pub length-rising : (size room low : ℕ) → length (rising size room low) ≡ ways size room
length-rising zero room low = refl
length-rising (suc size) zero low = refl
length-rising (suc size) (suc room) low =
    let with_low = length-rising size room (suc low) in
    let without = length-rising (suc size) room (suc low) in
    let m = length-map (rising size room (suc low)) (λ (t : List ℕ). low ∷ t) in
    length-append (map (λ t. low ∷ t) (rising size room (suc low))) (rising (suc size) room (suc low)) ∙ omega arith

length-tuples-suc : (items size : ℕ) → length (tuples items (suc size)) ≡ length (tuples items size) + ways (suc size) items
length-tuples-suc items size =
    length-append (tuples items size) (rising (suc size) items 0) ∙ ap (λ (n : ℕ). length (tuples items size) + n) (length-rising (suc size) items 0)

-- a choice made longer by an item that it lacks is a longer choice with one of its items marked
pub ways-suc : (size items : ℕ) → suc size * ways (suc size) items ≡ ways size items * (items - size)
ways-suc zero zero = refl
ways-suc zero (suc items) = let i = ways-suc zero items in omega arith
ways-suc (suc size) zero = omega arith
ways-suc (suc size) (suc items) =
    let a = ways size items in
    let b = ways (suc size) items in
    let c = ways (suc (suc size)) items in
    let i : suc size * b ≡ a * (items - size) = ways-suc size items in
    let j : suc (suc size) * c ≡ b * (items - suc size) = ways-suc (suc size) items in
    let p : suc (suc size) * (b + c) ≡ suc (suc size) * b + suc (suc size) * c = mul-add (suc (suc size)) b c in
    let q : suc (suc size) * b ≡ suc size * b + b = suc-mul (suc size) b in
    let r : (a + b) * (items - size) ≡ a * (items - size) + b * (items - size) = add-mul a b (items - size) in
    let back : (a + b) * (items - size) ≡ (a + b) * (suc items - suc size) = let e : items - size ≡ suc items - suc size = omega arith in ap (λ (n : ℕ). (a + b) * n) e in
    let sums : suc (suc size) * b + suc (suc size) * c ≡ a * (items - size) + b * (items - size) = elim (cases_lt size items) [
      | inl less ↦
          let d : items - size ≡ suc (items - suc size) = omega arith in
          let s : b * (items - size) ≡ b * (items - suc size) + b = ap (λ (n : ℕ). b * n) d ∙ mul-suc b (items - suc size) in
          omega arith
      | inr most ↦
          let d : items - size ≡ 0 = omega arith in
          let s : a * (items - size) ≡ 0 = ap (λ (n : ℕ). a * n) d ∙ mul-zero a in
          let t : b * (items - size) ≡ 0 = ap (λ (n : ℕ). b * n) d ∙ mul-zero b in
          let u : suc size * b ≡ size * b + b = suc-mul size b in
          let none : b ≡ 0 = omega arith in
          let v : b * (items - suc size) ≡ 0 = ap (λ (n : ℕ). n * (items - suc size)) none ∙ zero-mul (items - suc size) in
          omega arith
    ] in
    p ∙ sums ∙ sym r ∙ back

pub ways-next : (size items : ℕ) → ways size items * (items - size) / (size + 1) ≡ ways (size + 1) items
ways-next size items =
    let e : suc size ≡ size + 1 = omega arith in
    let P : ℕ → Type 0 = λ n. ways size items * (items - size) / n ≡ ways n items in
    let divided : ways size items * (items - size) / suc size ≡ ways (suc size) items =
    ap (λ (n : ℕ). n / suc size) (sym (ways-suc size items)) ∙ mul-div_cancel_left (ways (suc size) items) (omega arith) in
    subst P e divided

ways-bound : (size items : ℕ) → items ≤ 511 → ways size items ≤ 2 ^ (9 * size)
ways-bound zero items l = omega arith
ways-bound (suc size) items l =
    let m : suc size * ways (suc size) items ≡ ways size items * (items - size) = ways-suc size items in
    let u : suc size * ways (suc size) items ≡ size * ways (suc size) items + ways (suc size) items = suc-mul size (ways (suc size) items) in
    let b : ways size items * (items - size) ≤ 2 ^ (9 * size) * 512 = mul-le-mul (ways-bound size items l) (omega arith) in
    let p : 2 ^ (9 * size + 9) ≡ 2 ^ (9 * size) * 512 = pow-add 2 (9 * size) 9 in
    let e : 9 * suc size ≡ 9 * size + 9 = omega arith in
    let P : ℕ → Type 0 = λ n. ways (suc size) items ≤ 2 ^ n in
    subst P (sym e) (omega arith)

-- for at most 511 items the product of a step fits 64 bits, and so does the sum
product-bound : (size items : ℕ) → items ≤ 511 → size < 6 → ways size items * (items - size) ≤ 2 ^ 54
product-bound size items l m =
    let d : 9 * size ≤ 45 = omega arith in
    let p : 2 ^ (9 * size) ≤ 2 ^ 45 = pow_mono d in
    let w : ways size items ≤ 2 ^ 45 = let b = ways-bound size items l in omega arith in
    let f : items - size ≤ 512 = omega arith in
    let b : ways size items * (items - size) ≤ 2 ^ 45 * 512 = mul-le-mul w f in
    omega arith

pub length-rising-bound : (items size low : ℕ) → items ≤ 511 → size ≤ 6 → length (rising size items low) ≤ 2 ^ 54
length-rising-bound items size low l m =
    let w = ways-bound size items l in
    let d : 9 * size ≤ 54 = omega arith in
    let p : 2 ^ (9 * size) ≤ 2 ^ 54 = pow_mono d in
    let e = length-rising size items low in
    omega arith

pub length-tuples-bound : (items size : ℕ) → items ≤ 511 → size ≤ 6 → length (tuples items size) ≤ suc size * 2 ^ 54
length-tuples-bound items zero l m = omega arith
length-tuples-bound items (suc size) l m =
    let i = length-tuples-bound items size l (omega arith) in
    let w = ways-bound (suc size) items l in
    let d : 9 * suc size ≤ 54 = omega arith in
    let p : 2 ^ (9 * suc size) ≤ 2 ^ 54 = pow_mono d in
    let e = length-tuples-suc items size in
    omega arith

-- one step of a count: from the tuples of one size to those of the next
module _ (items chosen of_size lacking divisor : ℕ) (few : items ≤ 511) (short : chosen < 6) (known : of_size ≡ ways chosen items)
    (lack : lacking ≡ items - chosen) (by_items : divisor ≡ chosen) where
  product_same : of_size * lacking ≡ ways chosen items * (items - chosen)
  product_same = ap (λ (n : ℕ). n * lacking) known ∙ ap (λ (n : ℕ). ways chosen items * n) lack

  pub step-product : of_size * lacking ≤ 2 ^ 54
  step-product = let b = product-bound chosen items few short in let e = product_same in omega arith

  pub step-of_size : of_size * lacking / (divisor + 1) ≡ ways (chosen + 1) items
  step-of_size =
      ap (λ (n : ℕ). n / (divisor + 1)) product_same
      ∙ ap (λ (n : ℕ). ways chosen items * (items - chosen) / (n + 1)) by_items
      ∙ ways-next chosen items

-- and one step of the count of all: the tuples of the next size join
pub count-step : (items size : ℕ) → items ≤ 511 → size < 6 →
    (length (tuples items size) + length (rising (size + 1) items 0) ≡ length (tuples items (size + 1))) × (length (tuples items (size + 1)) ≤ 7 * 2 ^ 54)
count-step items size few short =
    let e : suc size ≡ size + 1 = omega arith in
    let P : ℕ → Type 0 = λ n. length (tuples items size) + length (rising n items 0) ≡ length (tuples items n) in
    let b = length-tuples-bound items (size + 1) few (omega arith) in
    let m : suc (size + 1) * 2 ^ 54 ≤ 7 * 2 ^ 54 = mul-le-mul_right (2 ^ 54) (let k : suc (size + 1) ≤ 7 = omega arith in k) in
    (subst P e (sym (length-append (tuples items size) (rising (suc size) items 0))), omega arith)
