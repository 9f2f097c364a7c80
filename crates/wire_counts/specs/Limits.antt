-- For how many wires an item may stand, so that all counts of sets fit 128 bits.
use Rattle.std.specs.Prelude.{ℕ}

-- an item stands for at most so many wires
abbrev pub most_weight : ℕ
most_weight = 4096
