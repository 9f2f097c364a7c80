-- Sums of bits over sets of their numbers. A set of numbers is a number too: k is in it where its bit k is 1.
use Rattle.std.specs.Prelude.{ℕ, zero, suc, ◌==◌, Bool, false, ◌&&◌}
use Rattle.std.specs.Int.{bit_at}
use Rattle.gadget_model.specs.Bits.{add}

-- the sum of those of the first n bits that are in a set
abbrev pub set_sum : ℕ → ℕ → (ℕ → Bool) → Bool
set_sum zero set bits = false
set_sum (suc n) set bits = add (set_sum n set bits) ((bit_at set n == 1) && bits n)
