use Rattle.std.proofs.Common.{◌≡◌, ◌⊎◌, ◌<◌, ℕ, length}
use Rattle.antichain_list.specs.Held.{IsMarked}
use Rattle.antichain_list.proofs.marks.mark_all.Given as goal

abbrev pub invariant-loop-item : goal.invariant-loop-item
invariant-loop-item l = record {
  wide : length l.marks ≡ 511;
  marked : (item : ℕ) → (IsMarked l.fn.marks item ⊎ ((item < l.item) × IsMarked l.others item)) → IsMarked l.marks item;
}
