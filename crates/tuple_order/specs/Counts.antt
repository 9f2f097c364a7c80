-- How many tuples come before those of a size.
use Rattle.std.specs.Prelude.{ℕ, zero, suc, length}
use Rattle.tuple_model.specs.Tuples.{tuples}

-- the number of tuples of fewer than `size` items
abbrev pub fewer : ℕ → ℕ → ℕ
fewer items zero = 0
fewer items (suc size) = length (tuples items size)
