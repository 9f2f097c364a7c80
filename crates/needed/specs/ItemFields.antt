-- The fields of a scratch for tuples of items.
use Rattle.std.specs.Prelude.{length}
use Rattle.needed.specs.declared.item_scratch.ItemScratch.TheInside.{Inside}
use Rattle.needed.specs.TestedItems.{TestedItems}
use Rattle.needed.specs.HeldItems.{AreObserved, HoldsItems, observed_of}

abbrev pub items_tested : Inside → TestedItems
items_tested s = record { table = s.held.elimination.table; observed = observed_of s.observed.items }

-- the items fit the table, and those of the last tuple are held
pub record IsItemScratch (s : Inside) : Type 0 where
  pub observed : AreObserved (length s.held.elimination.table.random_rows) (observed_of s.observed.items)
  pub held : HoldsItems (observed_of s.observed.items) s.held
