use Rattle.std.proofs.Common.{◌≡◌, ◌++◌, map}
use Rattle.std.specs.List.{range_with_len}
use Rattle.itertools.specs.Pool.{combination_left}
use Rattle.tuple_model.specs.Tuples.{rising}
use Rattle.rp_events.proofs.index_sets.index_sets.Given as goal

abbrev pub invariant-loop-set : goal.invariant-loop-set
invariant-loop-set l = record {
  left : map (λ set. set.items) l.sets.items ++ combination_left l.set-iterator ≡ rising l.size l.n 0;
  pool : l.set-iterator.pool.items ≡ range_with_len 0 l.n;
}
