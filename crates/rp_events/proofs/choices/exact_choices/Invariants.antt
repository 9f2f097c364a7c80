use Rattle.std.proofs.Common.{◌≡◌, map, take}
use Rattle.rp_events.specs.Events.{exactly}
use Rattle.rp_events.specs.Choices.{given_of}
use Rattle.rp_events.proofs.choices.exact_choices.Given as goal

abbrev pub invariant-loop-set : goal.invariant-loop-set
invariant-loop-set l = map given_of l.choices.items ≡ map (λ set. exactly set.items) (take l.set-index l.sets)
