-- What contracts see of an elimination.
use Rattle.std.specs.Prelude.{ℕ, List}
use Rattle.wire_table.specs.Tables.{Table}

-- a table, and the variables that are eliminated
pub record Eliminated : Type 0 where
  pub table : Table
  pub vars : List ℕ
