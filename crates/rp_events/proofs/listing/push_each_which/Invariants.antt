use Rattle.std.proofs.Common.{◌≡◌, ◌++◌, map, take}
use Rattle.rp_events.specs.Events.{event_with}
use Rattle.rp_events.specs.Questions.{event_of}
use Rattle.rp_events.specs.Choices.{given_of}
use Rattle.rp_events.proofs.listing.push_each_which.Given as goal

abbrev pub invariant-loop-which : goal.invariant-loop-which
invariant-loop-which l =
    map event_of l.events.items ≡ map event_of l.fn.events.items ++ map (event_with l.gadget l.fn.rp (map given_of l.given)) (take l.which-index l.whiches)
