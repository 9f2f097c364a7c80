-- Numbers that stop at 255.
use Rattle.std.proofs.Common.{◌≡◌, ◌+◌, ◌-◌, ◌*◌, ℕ, min, List, [], ◌∷◌, refl, arith}
use Rattle.std.specs.List.{fold}
use Rattle.gadget_headers.specs.Headers.{number_of}

-- the number with one more digit, as the code has it
abbrev pub capped : ℕ → ℕ → ℕ
capped n digit = min (min (n * 10) 255 + (digit - 48)) 255

capped_step : (n m digit : ℕ) → n ≡ min m 255 → capped n digit ≡ min (10 * m + (digit - 48)) 255
capped_step n m digit e = omega (arith, e)

capped_fold : (digits : List ℕ) (n m : ℕ) → n ≡ min m 255 → fold capped n digits ≡ min (fold (λ n digit. 10 * n + (digit - 48)) m digits) 255
capped_fold [] n m e = e
capped_fold (digit ∷ digits) n m e = capped_fold digits (capped n digit) (10 * m + (digit - 48)) (capped_step n m digit e)

pub capped_number : (digits : List ℕ) → fold capped 0 digits ≡ min 255 (number_of digits)
capped_number digits = let h = capped_fold digits 0 0 refl in omega (arith, h)
