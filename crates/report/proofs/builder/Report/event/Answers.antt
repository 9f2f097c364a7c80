-- The line is made of copies of its bytes, which are the same bytes.
use Rattle.std.proofs.Common.{rules, ◌≡◌, ◌∙◌, ◌++◌, ℕ, List, ap, ap₂}
use Rattle.std.specs.List.{each_same}
use Rattle.report.specs.Report.{event_line}
use Rattle.report.proofs.builder.Report.event.Goals as goal

pub returns-clause-added : goal.returns-clause-added
returns-clause-added c =
    let copied = each_same (event_line c.bytes.result.now) c.in_ok-line.line.items c.in_ok-line.ensures.ok in
    let line = c.deref.ensures.value ∙ copied ∙ ap event_line c.bytes.ensures in
    let old : c.self.inside.bytes.items ≡ c.args.self.now = search rules in
    c.in_ok-extend_from_slice.ensures.items ∙ ap₂ (λ (bytes more : List ℕ). bytes ++ more) old line
