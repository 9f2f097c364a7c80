use Rattle.std.proofs.Common.{◌≡◌}
use Rattle.tuple_order.proofs.Counting.{ways}
use Rattle.rp_events.proofs.index_sets.count_index_sets.Given as goal

abbrev pub invariant-loop-chosen : goal.invariant-loop-chosen
invariant-loop-chosen l = l.count ≡ ways l.chosen l.n
