use Rattle.std.proofs.Common.{◌≡◌, ◌++◌, All, map}
use Rattle.std.specs.Slice.Iter.{iter_rest}
use Rattle.std.specs.Iterator.Adapters.{zip_first, zip_second}
use Rattle.wire_table.specs.CodeItems.{item_of}
use Rattle.rp_events.specs.Questions.{event_of}
use Rattle.mask_check.specs.Report.{answer_lines}
use Rattle.mask_check.specs.Decisions.{answer_of, event_questions, IsOfItems}
use Rattle.mask_check.proofs.event_answers.add_events.Given as goal

abbrev pub invariant-loop-event : goal.invariant-loop-event
invariant-loop-event l = record {
  lines : l.report ++ answer_lines (map item_of l.items) (event_questions l.settings (map event_of (iter_rest (zip_first l.event-iterator))))
      (map answer_of (iter_rest (zip_second l.event-iterator)))
      ≡ l.fn.report ++ answer_lines (map item_of l.items) (event_questions l.settings (map event_of l.events)) (map answer_of l.answers);
  there : All (IsOfItems (map item_of l.items)) (map answer_of (iter_rest (zip_second l.event-iterator)));
}
