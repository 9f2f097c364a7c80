-- What contracts see of a scratch for tuples of items.
use Rattle.std.specs.Prelude.{ℕ, List, [], map, flat_map, slice_index_or}
use Rattle.wire_table.specs.Tables.{Table}
use Rattle.wire_table.specs.Items.{Item}

-- a table, and the variables that each item observes
pub record TestedItems : Type 0 where
  pub table : Table
  pub observed : List (List ℕ)

-- the variables that each item observes
abbrev pub observed_by : List Item → List (List ℕ)
observed_by items = map (λ item. item.variables) items

abbrev pub tested_items : Table → List Item → TestedItems
tested_items table items = record { table = table; observed = observed_by items }

-- the variables of a tuple's items, one item after the other, where these are the variables that each observes
abbrev pub variables_at : List (List ℕ) → List ℕ → List ℕ
variables_at observed t = flat_map (λ i. slice_index_or observed i []) t
