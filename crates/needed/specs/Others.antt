-- How many variables are simulated beside those of a tuple's items.
use Rattle.std.specs.Prelude.{ℕ}

-- Beside a tuple's variables at most so many others are simulated: the shares of two outputs.
abbrev pub most_others : ℕ
most_others = 32
