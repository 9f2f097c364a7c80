use Rattle.std.proofs.Common.{◌++◌, map}
use Rattle.std.specs.Slice.Iter.{iter_rest}
use Rattle.std.specs.Iterator.Adapters.{zip_first, zip_second}
use Rattle.std.proofs.lemmas.Slice.Zip.{Zip-more, either_empty_from_Zip}
use Rattle.wire_table.specs.CodeItems.{item_of}
use Rattle.rp_events.specs.Questions.{event_of}
use Rattle.mask_check.specs.Report.{answer_lines}
use Rattle.mask_check.specs.Decisions.{answer_of, event_questions}
use Rattle.mask_check.proofs.EventLines.{IsOfItems-next, answer_lines-next, answer_lines-done}
use Rattle.mask_check.proofs.event_answers.add_events.Goals as goal

pub add_event-requires : goal.add_event-requires
add_event-requires c =
    let items = c.loop-event.event-iterator in
    let left = c.next.new.self in
    let more = Zip-more items left c.next.result _ c.in-Some.is c.next.ensures.steps in
    record {
      there = (IsOfItems-next (map item_of c.args.items.now) c.in-Some.answer.now (iter_rest (zip_second left)) (iter_rest (zip_second items))
          more.1 c.loop-event.invariant.there).0;
    }

pub loop-event-preserved : goal.loop-event-preserved
loop-event-preserved c =
    let items = c.loop-event.event-iterator in
    let left = c.next.new.self in
    let of_items = map item_of c.args.items.now in
    let more = Zip-more items left c.next.result _ c.in-Some.is c.next.ensures.steps in
    record {
      lines = answer_lines-next of_items c.args.settings.now c.in-Some.event.now c.in-Some.answer.now
          (iter_rest (zip_first left)) (iter_rest (zip_first items)) (iter_rest (zip_second left)) (iter_rest (zip_second items))
          c.loop-event.report c.add_event.new.report
          (c.args.report.now ++ answer_lines of_items (event_questions c.args.settings.now (map event_of c.args.events.now)) (map answer_of c.args.answers.now))
          more.0 more.1 c.in_ok-add_event.ensures c.loop-event.invariant.lines;
      there = (IsOfItems-next of_items c.in-Some.answer.now (iter_rest (zip_second left)) (iter_rest (zip_second items))
          more.1 c.loop-event.invariant.there).1;
    }

pub returns : goal.returns
returns c =
    let items = c.loop-event.event-iterator in
    let of_items = map item_of c.args.items.now in
    answer_lines-done of_items c.args.settings.now (iter_rest (zip_first items)) (iter_rest (zip_second items)) c.loop-event.report
    (c.args.report.now ++ answer_lines of_items (event_questions c.args.settings.now (map event_of c.args.events.now)) (map answer_of c.args.answers.now))
    (either_empty_from_Zip items c.next.new.self c.next.result c.in-None.is c.next.ensures.steps) c.loop-event.invariant.lines
