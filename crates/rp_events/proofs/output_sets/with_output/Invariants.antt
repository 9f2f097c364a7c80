use Rattle.std.proofs.Common.{◌≡◌, ◌+◌, map, take}
use Rattle.std.specs.Prelude.{flat_map}
use Rattle.rp_events.specs.Choices.{indices_meant, shares_at}
use Rattle.rp_events.proofs.output_sets.with_output.Given as goal

abbrev pub invariant-loop-set : goal.invariant-loop-set
invariant-loop-set l = l.all.items ≡ flat_map (λ set. map (λ indices. set + shares_at l.output indices) (indices_meant l.choice)) (take l.set-index l.sets)
