use Rattle.std.proofs.Common.{◌≡◌, ◌++◌, map, drop}
use Rattle.rp_events.specs.Events.{event_word, given_words}
use Rattle.rp_events.specs.Choices.{given_of}
use Rattle.rp_events.proofs.names.event_name.Given as goal

abbrev pub invariant-loop-output : goal.invariant-loop-output
invariant-loop-output l =
    l.name.items ++ given_words l.gadget l.output (drop l.output (map given_of l.given))
    ≡ event_word l.fn.rp (map given_of l.given) l.fn.which ++ given_words l.gadget 0 (map given_of l.given)
