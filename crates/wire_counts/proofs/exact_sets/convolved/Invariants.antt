use Rattle.std.proofs.Common.{◌≡◌, ◌+◌, ◌-◌, slice_index}
use Rattle.wire_counts.specs.Ways.{ways_to_choose, convolution}
use Rattle.wire_counts.proofs.Convolutions.{terms}
use Rattle.wire_counts.proofs.exact_sets.convolved.Given as goal

abbrev pub invariant-loop-taken : goal.invariant-loop-taken
invariant-loop-taken l =
    l.total + terms (ways_to_choose l.binomials) (slice_index l.sets) l.more (l.more + 1 - l.taken) ≡ convolution (ways_to_choose l.binomials) (slice_index l.sets) l.more
