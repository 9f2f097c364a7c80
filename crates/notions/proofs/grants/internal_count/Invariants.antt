use Rattle.std.proofs.Common.{◌≡◌, ◌≤◌, map, take}
use Rattle.wire_table.specs.CodeItems.{item_of}
use Rattle.notions.specs.Notions.{internal_count}
use Rattle.notions.proofs.grants.internal_count.Given as goal

abbrev pub invariant-loop-item : goal.invariant-loop-item
invariant-loop-item l = record {
  count : l.count ≡ internal_count (map item_of l.list) (take l.item-index l.tuple);
  few : l.count ≤ l.item-index;
}
