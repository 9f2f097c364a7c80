-- The step from a rising list to the next one of its size.
use Rattle.std.specs.Prelude.{ℕ, zero, suc, ◌+◌, ◌-◌, ◌<◌, if◌then◌else◌, nat_lt, List, [], ◌∷◌, length, slice_index, Option, Some, None, option_map}
use Rattle.std.specs.Option.{option_or}

-- so many numbers in a row, from a first one on
abbrev pub numbers_from : ℕ → ℕ → List ℕ
numbers_from first zero = []
numbers_from first (suc n) = first ∷ numbers_from (suc first) n

-- An item can be raised where there is room below high for it and for the items after it.
abbrev pub CanRaise : ℕ → List ℕ → ℕ → Type 0
CanRaise high t place = (place < length t) × (slice_index t place + (length t - place) < high)

-- The next list of the same size below high: the last item that can be raised is raised, and those after it follow on.
abbrev pub next_of_size : ℕ → List ℕ → Option (List ℕ)
next_of_size high [] = None
next_of_size high (x ∷ xs) =
    option_or (option_map (λ t. x ∷ t) (next_of_size high xs))
    (if nat_lt (suc x + length xs) high then Some (numbers_from (suc x) (suc (length xs))) else None)
