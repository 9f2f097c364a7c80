use Rattle.std.proofs.Common.{map, take}
use Rattle.rp_events.specs.Questions.{event_of}
use Rattle.mask_check.specs.Decisions.{answer_of, AreAnswersTo}
use Rattle.mask_check.proofs.event_answers.event_answers.Given as goal

abbrev pub invariant-loop-event : goal.invariant-loop-event
invariant-loop-event g l = AreAnswersTo l.settings l.gadget (map event_of (take l.event-index l.events)) (map answer_of l.answers.items)
