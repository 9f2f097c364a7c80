-- Numbers that a command line gives.
use Rattle.std.specs.Prelude.{ℕ, ◌&&◌, Bool, List, length, Option, Some, None, if◌then◌else◌, nat_lt, nat_le, not}
use Rattle.std.specs.Prelude.{option_and_then}
use Rattle.std.specs.Str.{all_ascii_digits}
use Rattle.std.specs.Str.Parse.{digits_value}

-- A number has at most this many digits, leading zeros counted in.
abbrev pub most_digits : ℕ
most_digits = 10

-- the text is one to ten digits
abbrev pub is_short_number : List ℕ → Bool
is_short_number text = nat_lt 0 (length text) && (not (nat_lt most_digits (length text)) && all_ascii_digits text)

-- the number that one to ten digits write
abbrev pub short_number : List ℕ → Option ℕ
short_number text = if is_short_number text then Some (digits_value 10 text) else None

-- that number, where it is in this range
abbrev pub number_between : ℕ → ℕ → List ℕ → Option ℕ
number_between least most text =
    option_and_then (λ n. if nat_le least n && nat_le n most then Some n else None) (short_number text)
