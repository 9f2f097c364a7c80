use Rattle.std.proofs.Common.{◌<◌, ◌≤◌, ◌-◌, ℕ, length}
use Rattle.gadget_tree.specs.NameOrder.{ComesBefore, name_in}
use Rattle.gadget_tree.specs.Seen.{variables_of}
use Rattle.gadget_tree.proofs.name_order.rank.Given as goal

abbrev pub invariant-loop-low : goal.invariant-loop-low
invariant-loop-low l = record {
  ordered : l.low ≤ l.high;
  within : l.high ≤ length l.numbers;
  before : (i : ℕ) → i < l.low → ComesBefore (name_in (variables_of l.vars) l.numbers i) l.name;
  others : (i : ℕ) → l.high ≤ i → i < length l.numbers → ComesBefore (name_in (variables_of l.vars) l.numbers i) l.name → ⊥;
}

abbrev pub decreases-loop-low : goal.decreases-loop-low
decreases-loop-low l = l.high - l.low
