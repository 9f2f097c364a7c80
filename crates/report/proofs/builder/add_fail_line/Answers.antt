use Rattle.std.proofs.Common.{◌++◌, length, take, map, ◌∙◌, append_assoc}
use Rattle.std.specs.Prelude.{codes, decimal, flat_map}
use Rattle.std.proofs.lemmas.Result.{err_from_is_err_and}
use Rattle.wire_table.specs.CodeItems.{item_of}
use Rattle.report.specs.Report.{item_name}
use Rattle.report.proofs.builder.add_fail_line.Goals as goal

pub returns-in_err-push : goal.returns-in_err-push
returns-in_err-push c =
    let p = err_from_is_err_and c.from_residual-in_err-push.result c.from_residual-in_err-push.ensures.1 in
    let old = c.args.bytes.now.items in
    let size = decimal (length c.args.tuple.now) in
    let names = flat_map (λ i. codes " " ++ item_name (map item_of c.args.items.now) i) (take c.loop-number.number-index c.args.tuple.now) in
    rw (p.1) (
      codes "fail " ++ (size ++ names),
      c.in_err-push.ensures.items ∙ c.loop-number.invariant
          ∙ append_assoc (old ++ codes "fail ") size names ∙ append_assoc old (codes "fail ") (size ++ names),
    )
