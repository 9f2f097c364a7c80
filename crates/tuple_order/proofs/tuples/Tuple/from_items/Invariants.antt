use Rattle.std.proofs.Common.{◌≡◌, take}
use Rattle.tuple_model.specs.Tuples.{IsTuple}
use Rattle.tuple_order.proofs.Making.{least_after}
use Rattle.tuple_order.proofs.tuples.Tuple.from_items.Given as goal

abbrev pub invariant-loop-item : goal.invariant-loop-item
invariant-loop-item l = record {
  made : l.t ≡ take l.item-index l.items;
  low : l.low ≡ least_after 0 (take l.item-index l.items);
  tuple : IsTuple 511 6 (take l.item-index l.items);
}
