use Rattle.std.proofs.Common.{◌≡◌}
use Rattle.tuple_order.proofs.Counting.{ways}
use Rattle.tuple_order.proofs.counts.count_of_size.Given as goal

abbrev pub invariant-loop-chosen : goal.invariant-loop-chosen
invariant-loop-chosen l = l.of_size ≡ ways l.chosen l.items
