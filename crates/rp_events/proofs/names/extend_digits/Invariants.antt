use Rattle.std.proofs.Common.{◌≡◌, ◌++◌, take}
use Rattle.std.specs.Prelude.{flat_map}
use Rattle.rp_events.specs.Events.{mode_digit}
use Rattle.rp_events.specs.Choices.{given_of}
use Rattle.rp_events.proofs.names.extend_digits.Given as goal

abbrev pub invariant-loop-choice : goal.invariant-loop-choice
invariant-loop-choice l = l.name.items ≡ l.fn.name.items ++ flat_map (λ choice. mode_digit (given_of choice)) (take l.choice-index l.given)
