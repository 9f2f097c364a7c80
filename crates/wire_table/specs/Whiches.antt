-- The words for the inputs over which an event of random probing asks.
use Rattle.std.specs.Prelude.{ℕ, ◌==◌, List, if◌then◌else◌, codes}
use Rattle.wire_table.specs.declared.which.Which.{Which}
use Rattle.wire_table.specs.declared.which.Which.TheVariants.{Any, Input, Both}

abbrev pub which_word : Which → List ℕ
which_word Any = codes "any"
which_word (Input k) = if k == 0 then codes "in0" else codes "in1"
which_word Both = codes "both"
