use Rattle.std.proofs.Common.{◌≡◌, ◌++◌, map, take}
use Rattle.std.specs.Prelude.{flat_map}
use Rattle.rp_events.specs.Questions.{event_of}
use Rattle.rp_events.specs.Choices.{each_which, given_of}
use Rattle.rp_events.proofs.listing.extend_events.Given as goal

abbrev pub invariant-loop-given : goal.invariant-loop-given
invariant-loop-given l =
    map event_of l.events.items
    ≡ map event_of l.fn.events.items ++ flat_map (λ one. each_which l.gadget l.rp l.whiches (map given_of one.items)) (take l.given-index l.given-items)
