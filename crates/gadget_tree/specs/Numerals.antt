-- Numbers in decimal, read from the left.
use Rattle.std.specs.Prelude.{ℕ, ◌+◌, ◌-◌, ◌*◌, Bool, ◌&&◌, nat_lt, List, [], ◌∷◌}
use Rattle.std.specs.Char.{is_ascii_digit}

-- Digits continue a number, from which on it stays above 0 and below a bound. So no zero leads.
abbrev pub continues_below : ℕ → ℕ → List ℕ → Bool
continues_below bound n [] = nat_lt 0 n
continues_below bound n (d ∷ ds) =
    is_ascii_digit d && nat_lt 0 (10 * n + (d - 48)) && nat_lt (10 * n + (d - 48)) bound
    && continues_below bound (10 * n + (d - 48)) ds
