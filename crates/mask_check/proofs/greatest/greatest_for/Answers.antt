use Rattle.std.proofs.Common.{◌∙◌, map, option_map, sym}
use Rattle.std.specs.Slice.Iter.{iter_rest}
use Rattle.std.specs.Iterator.Adapters.{zip_first, zip_second}
use Rattle.std.proofs.lemmas.Slice.Zip.{Zip-more, either_empty_from_Zip}
use Rattle.rp_events.specs.Questions.{event_of}
use Rattle.mask_check.specs.Report.{coefficients_for, greatest_of}
use Rattle.mask_check.specs.Decisions.{answer_of, event_questions}
use Rattle.mask_check.proofs.GreatestNumbers.{same_which-is, greatest_from-event, greatest_from-done}
use Rattle.mask_check.proofs.greatest.greatest_for.Goals as goal

pub loop-event-preserved-then-eq : goal.loop-event-preserved-then-eq
loop-event-preserved-then-eq c =
    let items = c.loop-event.event-iterator in
    let left = c.next.new.self in
    let more = Zip-more items left c.next.result _ c.in-Some.is c.next.ensures.steps in
    greatest_from-event c.args.which c.args.settings.now c.in-Some.event.now c.in-Some.answer.now
    (iter_rest (zip_first left)) (iter_rest (zip_first items)) (iter_rest (zip_second left)) (iter_rest (zip_second items))
    (option_map (λ numbers. numbers.items) c.loop-event.found) c.in_ok-greatest_with.field-0.items c.deref.result.now
    (greatest_of (coefficients_for c.args.which (event_questions c.args.settings.now (map event_of c.args.events.now)) (map answer_of c.args.answers.now)))
    (sym (same_which-is c.args.which c.in-Some.event.now.which) ∙ sym c.eq.ensures ∙ c.if-eq.true) c.deref.ensures.value c.in_ok-greatest_with.ensures more.0 more.1 c.loop-event.invariant

pub returns : goal.returns
returns c =
    let items = c.loop-event.event-iterator in
    greatest_from-done c.args.which c.args.settings.now (iter_rest (zip_first items)) (iter_rest (zip_second items))
    (option_map (λ numbers. numbers.items) c.loop-event.found)
    (greatest_of (coefficients_for c.args.which (event_questions c.args.settings.now (map event_of c.args.events.now)) (map answer_of c.args.answers.now)))
    (either_empty_from_Zip items c.next.new.self c.next.result c.in-None.is c.next.ensures.steps) c.loop-event.invariant
