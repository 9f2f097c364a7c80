use Rattle.std.proofs.Common.{◌∙◌, List, ℕ, ◌++◌, map, ap}
use Rattle.wire_table.specs.CodeItems.{item_of}
use Rattle.rp_events.specs.Questions.{event_of}
use Rattle.report.specs.Report.{coefficients_line, event_line, fail_lines}
use Rattle.mask_check.proofs.EventLines.{added_parts}
use Rattle.mask_check.proofs.event_answers.add_event.Goals as goal

pub returns : goal.returns
returns c =
    let answer = c.args.answer.now in
    added_parts c.args.report.now c.event.new.self c.fails.new.self c.coefficients.new.self
    (event_line (event_of c.args.event.now).name) (fail_lines (map item_of c.args.items.now) answer.found.live) (coefficients_line answer.coefficients.items)
    c.in_ok-event.ensures.added
    (c.in_ok-fails.ensures.added ∙ ap (λ (failing : List (List ℕ)). c.event.new.self ++ fail_lines (map item_of c.args.items.now) failing) c.live.ensures)
    (c.in_ok-coefficients.ensures.added ∙ ap (λ (ns : List ℕ). c.fails.new.self ++ coefficients_line ns) c.deref.ensures.value)
