use Rattle.std.proofs.Common.{◌++◌, ℕ, List, map, take, sym, ap, ◌∙◌}
use Rattle.std.specs.Prelude.{flat_map}
use Rattle.std.proofs.lemmas.List.{flat_map_more}
use Rattle.std.proofs.lemmas.Result.{err_from_is_err_and}
use Rattle.wire_table.specs.CodeItems.{item_of}
use Rattle.report.specs.Report.{fail_line, fail_lines}
use Rattle.report.proofs.Additions.{Extends-after}
use Rattle.report.proofs.FailLines.{take-one_more}
use Rattle.report.proofs.builder.add_fail_lines.Goals as goal

pub returns-in_err-add_fail_line : goal.returns-in_err-add_fail_line
returns-in_err-add_fail_line c =
    let p = err_from_is_err_and c.from_residual.result c.from_residual.ensures.1 in
    let done = fail_lines (map item_of c.args.items.now) (take c.loop-place.place c.args.list.now) in
    rw (p.1) (Extends-after c.args.bytes.now.items done c.loop-place.bytes.items c.add_fail_line.new.bytes.items
    c.loop-place.invariant c.in_err-add_fail_line.ensures)

pub loop-place-preserved : goal.loop-place-preserved
loop-place-preserved c =
    let line = fail_line (map item_of c.args.items.now) in
    let old = c.args.bytes.now.items in
    let done = take c.loop-place.place c.args.list.now in
    c.in_ok-add_fail_line.ensures
    ∙ ap (λ (tuple : List ℕ). c.loop-place.bytes.items ++ line tuple) c.items.ensures.items
    ∙ ap (λ (bytes : List ℕ). bytes ++ line c.tuple.result) c.loop-place.invariant
    ∙ flat_map_more line old done c.tuple.result
    ∙ ap (λ (tuples : List (List ℕ)). old ++ flat_map line tuples)
    (sym (take-one_more c.args.list.now c.loop-place.place c.tuple.result c.tuple.ensures))
