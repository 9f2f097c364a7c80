use Rattle.std.proofs.Common.{◌≡◌, ◌∙◌, ◌≤◌, ◌<◌, List, ℕ, map, length, sym, append-nil, arith}
use Rattle.wire_table.specs.CodeItems.{item_of}
use Rattle.tallies.specs.Counting.{cells}
use Rattle.report.specs.Report.{tally_line}
use Rattle.mask_check.proofs.Feeding.{few_cells, lines_more, lines_all, none_left}
use Rattle.mask_check.proofs.tallying.add_tally.Goals as goal

pub loop-k-init : goal.loop-k-init
loop-k-init g c = (sym (append-nil c.args.report.now), λ h. let no : ⊥ = omega arith in absurd no)

pub loop-k-preserved : goal.loop-k-preserved
loop-k-preserved g c =
    let its = goal.Tally-dyn g (c.args.tally.now.vtable, c.args.tally.now.value) in
    let kind = its.kind c.args.tally.now.value in
    let counts = its.counts c.args.tally.now.value in (
      lines_more (tally_line (map item_of c.args.items.now)) (cells kind counts)
          c.loop-k.k c.in-Some.cell c.args.report.now c.loop-k.report c.tally.new.self
          (sym c.cell_at.ensures.at ∙ c.in-Some.is) c.loop-k.invariant.0 c.in_ok-tally.ensures.added,
      λ h. few_cells kind counts c.cell_at.ensures.few,
    )

pub returns-after-loop-k : goal.returns-after-loop-k
returns-after-loop-k g c =
    let its = goal.Tally-dyn g (c.args.tally.now.vtable, c.args.tally.now.value) in
    let all = cells (its.kind c.args.tally.now.value) (its.counts c.args.tally.now.value) in
    let few : length all ≤ 65536 = c.loop-k.invariant.1 (omega arith) in
    lines_all (tally_line (map item_of c.args.items.now)) all c.loop-k.k c.args.report.now c.loop-k.report
    (omega arith) c.loop-k.invariant.0

pub returns-in_default : goal.returns-in_default
returns-in_default g c =
    let its = goal.Tally-dyn g (c.args.tally.now.vtable, c.args.tally.now.value) in
    let all = cells (its.kind c.args.tally.now.value) (its.counts c.args.tally.now.value) in
    lines_all (tally_line (map item_of c.args.items.now)) all c.loop-k.k c.args.report.now c.loop-k.report
    (none_left all c.loop-k.k (sym c.cell_at.ensures.at ∙ c.in_default.is)) c.loop-k.invariant.0
