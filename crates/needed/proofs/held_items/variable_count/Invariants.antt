use Rattle.std.proofs.Common.{◌≡◌, ◌*◌, ◌≤◌, length, take}
use Rattle.needed.specs.HeldItems.{observed_of}
use Rattle.needed.specs.TestedItems.{variables_at}
use Rattle.needed.proofs.held_items.variable_count.Given as goal

abbrev pub invariant-loop-item : goal.invariant-loop-item
invariant-loop-item l = record {
  count : l.count ≡ length (variables_at (observed_of l.observed) (take l.item-index l.items));
  few : l.count ≤ 2 * l.item-index;
}
