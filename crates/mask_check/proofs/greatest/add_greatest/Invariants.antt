use Rattle.std.proofs.Common.{◌≡◌, ◌++◌, flat_map, map, take}
use Rattle.rp_events.specs.Questions.{event_of}
use Rattle.mask_check.specs.Report.{coefficients_for, greatest_of, greatest_part, reported_whiches}
use Rattle.mask_check.specs.Decisions.{answer_of, event_questions}
use Rattle.mask_check.proofs.greatest.add_greatest.Given as goal

abbrev pub invariant-loop-which : goal.invariant-loop-which
invariant-loop-which l =
    l.report ≡ l.fn.report ++ flat_map (λ which. greatest_part which (greatest_of (coefficients_for which (event_questions l.settings (map event_of l.events)) (map answer_of l.answers))))
    (take l.which-index reported_whiches)
