use Rattle.std.proofs.Common.{◌≡◌, ◌+◌, take}
use Rattle.tuple_order.specs.Steps.{numbers_from}
use Rattle.tuple_order.proofs.steps.number_from.Given as goal

abbrev pub invariant-loop-place : goal.invariant-loop-place
invariant-loop-place l = record {
  written : take l.place-index l.place-items ≡ numbers_from l.first l.place-index;
  item : l.item ≡ l.first + l.place-index;
}
