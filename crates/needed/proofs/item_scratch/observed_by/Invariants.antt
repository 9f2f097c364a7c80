use Rattle.std.proofs.Common.{◌≡◌, map, take}
use Rattle.wire_table.specs.CodeItems.{item_of}
use Rattle.needed.specs.HeldItems.{observed_of}
use Rattle.needed.specs.TestedItems.{observed_by}
use Rattle.needed.proofs.item_scratch.observed_by.Given as goal

abbrev pub invariant-loop-item : goal.invariant-loop-item
invariant-loop-item l = observed_of l.observed.items ≡ observed_by (map item_of (take l.item-index l.list))
