use Rattle.std.proofs.Common.{◌≡◌, ◌+◌, ◌++◌, map, take}
use Rattle.rp_events.specs.Choices.{shares_at}
use Rattle.rp_events.proofs.output_sets.push_each.Given as goal

abbrev pub invariant-loop-indices : goal.invariant-loop-indices
invariant-loop-indices l = l.all.items ≡ l.fn.all.items ++ map (λ indices. l.set + shares_at l.output indices.items) (take l.indices-index l.sets)
