use Rattle.std.proofs.Common.{◌≡◌, map, option_map}
use Rattle.std.specs.Slice.Iter.{iter_rest}
use Rattle.std.specs.Iterator.Adapters.{zip_first, zip_second}
use Rattle.rp_events.specs.Questions.{event_of}
use Rattle.mask_check.specs.Report.{coefficients_for, greatest_of}
use Rattle.mask_check.specs.Decisions.{answer_of, event_questions}
use Rattle.mask_check.proofs.GreatestNumbers.{greatest_from}
use Rattle.mask_check.proofs.greatest.greatest_for.Given as goal

abbrev pub invariant-loop-event : goal.invariant-loop-event
invariant-loop-event l =
    greatest_from (option_map (λ numbers. numbers.items) l.found)
    (coefficients_for l.which (event_questions l.settings (map event_of (iter_rest (zip_first l.event-iterator))))
    (map answer_of (iter_rest (zip_second l.event-iterator))))
    ≡ greatest_of (coefficients_for l.which (event_questions l.settings (map event_of l.events)) (map answer_of l.answers))
