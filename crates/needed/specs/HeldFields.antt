-- The fields of an elimination.
use Rattle.std.specs.Prelude.{take}
use Rattle.needed.specs.declared.elimination.Elimination.TheInside.{Inside}
use Rattle.needed.specs.Eliminated.{Eliminated}
use Rattle.needed.specs.LeastSets.{HoldsLeastSets}

-- the table that it borrows, and the variables that it holds
abbrev pub eliminated : Inside → Eliminated
eliminated e = record { table = e.table.now; vars = take e.prefixes.count e.prefixes.vars }

-- what it holds is held for its table
abbrev pub IsElimination : Inside → Type 0
IsElimination e = HoldsLeastSets e.table.now e.scratch e.prefixes
