use Rattle.std.proofs.Common.{◌∙◌, [], ◌∷◌, ◌++◌, take, ap, sym, subst}
use Rattle.std.proofs.lemmas.List.{take_more}
use Rattle.gadget_tree.proofs.StepsMake.{All-from_map}
use Rattle.rp_events.specs.Questions.{IsEventOf, event_of}
use Rattle.rp_events.specs.declared.event.Event as code
use Rattle.mask_check.proofs.EventLines.{AreAnswersTo-more}
use Rattle.mask_check.proofs.event_answers.event_answers.Goals as goal

pub event_answer-requires-clause-event : goal.event_answer-requires-clause-event
event_answer-requires-clause-event g c =
    let P : code.Event → Type 0 = λ event. IsEventOf c.args.gadget.now (event_of event) in
    λ lifetimes bounds. subst P (sym c.event-item.is)
    (All-from_map (IsEventOf c.args.gadget.now) event_of c.args.events.now c.requires.events c.loop-event.event-index c.event-item.result c.loop-event-test.true)

pub loop-event-preserved : goal.loop-event-preserved
loop-event-preserved g c =
    let events = c.args.events.now in
    let k = c.loop-event.event-index in
    let event = c.event-item.result in
    AreAnswersTo-more c.args.settings.now c.args.gadget.now events k event c.loop-event.answers.items c.push.new.self.items c.in_ok-event_answer.field-0
    (take_more events k event c.loop-event-test.true ∙ ap (λ (e : code.Event). take k events ++ e ∷ []) (sym c.event-item.is))
    c.in_ok-push.ensures.items c.loop-event.invariant c.in_ok-event_answer.ensures
