-- No check asks about more tuples than a number of 64 bits counts, over all its questions.
use Rattle.std.proofs.Common.{◌≡◌, ℕ, zero, suc, ◌+◌, ◌-◌, ◌*◌, ◌^◌, ◌≤◌, length, ap, ◌∙◌, arith, length-append, mul-le-mul}
use Rattle.tuple_model.specs.Tuples.{rising, tuples}
use Rattle.tuple_order.proofs.Counting.{ways, length-rising, ways-suc}

module _ (items : ℕ) (few : items ≤ 511) where
  next : (size bound : ℕ) → ways size items ≤ bound → suc size * ways (suc size) items ≤ bound * (511 - size)
  next size bound h =
      let e = ways-suc size items in
      let l : items - size ≤ 511 - size = omega arith in
      let m : ways size items * (items - size) ≤ bound * (511 - size) = mul-le-mul h l in
      omega arith

  ways-1 : ways 1 items ≤ 511
  ways-1 = let n = next 0 1 (omega arith) in omega arith

  ways-2 : ways 2 items ≤ 130305
  ways-2 = let n = next 1 511 ways-1 in omega arith

  ways-3 : ways 3 items ≤ 22108415
  ways-3 = let n = next 2 130305 ways-2 in omega arith

  ways-4 : ways 4 items ≤ 2807768705
  ways-4 = let n = next 3 22108415 ways-3 in omega arith

  ways-5 : ways 5 items ≤ 284707746687
  ways-5 = let n = next 4 2807768705 ways-4 in omega arith

  ways-6 : ways 6 items ≤ 24010353303937
  ways-6 = let n = next 5 284707746687 ways-5 in omega arith

  more : (size : ℕ) → length (tuples items (suc size)) ≡ length (tuples items size) + ways (suc size) items
  more size =
      length-append (tuples items size) (rising (suc size) items 0) ∙ ap (λ (n : ℕ). length (tuples items size) + n) (length-rising (suc size) items 0)

  upto-0 : length (tuples items 0) ≤ 1
  upto-0 = omega arith

  upto-1 : length (tuples items 1) ≤ 512
  upto-1 = let m = more 0 in let u = upto-0 in let w = ways-1 in omega arith

  upto-2 : length (tuples items 2) ≤ 130817
  upto-2 = let m = more 1 in let u = upto-1 in let w = ways-2 in omega arith

  upto-3 : length (tuples items 3) ≤ 22239232
  upto-3 = let m = more 2 in let u = upto-2 in let w = ways-3 in omega arith

  upto-4 : length (tuples items 4) ≤ 2830007937
  upto-4 = let m = more 3 in let u = upto-3 in let w = ways-4 in omega arith

  upto-5 : length (tuples items 5) ≤ 287537754624
  upto-5 = let m = more 4 in let u = upto-4 in let w = ways-5 in omega arith

  upto-6 : length (tuples items 6) ≤ 24297891058561
  upto-6 = let m = more 5 in let u = upto-5 in let w = ways-6 in omega arith

  pub few_tuples : (size : ℕ) → size ≤ 6 → length (tuples items size) ≤ 2 ^ 45
  few_tuples zero l = let u = upto-0 in omega arith
  few_tuples (suc zero) l = let u = upto-1 in omega arith
  few_tuples (suc (suc zero)) l = let u = upto-2 in omega arith
  few_tuples (suc (suc (suc zero))) l = let u = upto-3 in omega arith
  few_tuples (suc (suc (suc (suc zero)))) l = let u = upto-4 in omega arith
  few_tuples (suc (suc (suc (suc (suc zero))))) l = let u = upto-5 in omega arith
  few_tuples (suc (suc (suc (suc (suc (suc zero)))))) l = let u = upto-6 in omega arith
  few_tuples (suc (suc (suc (suc (suc (suc (suc size))))))) l = absurd (omega arith)
