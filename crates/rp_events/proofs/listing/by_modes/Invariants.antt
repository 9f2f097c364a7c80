use Rattle.std.proofs.Common.{◌≡◌, map, take}
use Rattle.std.specs.Prelude.{flat_map}
use Rattle.rp_events.specs.Questions.{event_of}
use Rattle.rp_events.specs.Choices.{events_by, given_of}
use Rattle.rp_events.proofs.listing.by_modes.Given as goal

abbrev pub invariant-loop-one_each : goal.invariant-loop-one_each
invariant-loop-one_each l =
    map event_of l.events.items
    ≡ flat_map (λ one. events_by l.gadget l.rp l.whiches (map (λ choices. map given_of choices.now) one.items)) (take l.one_each-index l.one_each-items)
