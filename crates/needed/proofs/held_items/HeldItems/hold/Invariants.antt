use Rattle.std.proofs.Common.{◌≡◌, ◌+◌, take}
use Rattle.needed.specs.HeldItems.{HoldsItemsAlone, held_by, observed_of}
use Rattle.needed.proofs.held_items.HeldItems.hold.Given as goal

abbrev pub invariant-loop-item : goal.invariant-loop-item
invariant-loop-item l = record {
  held : HoldsItemsAlone (observed_of l.observed) l.self;
  count : l.self.count ≡ l.common + l.item-index;
  items : held_by l.self ≡ take (l.common + l.item-index) l.tuple;
  table : l.self.elimination.table ≡ l.initial.self.elimination.table;
}
