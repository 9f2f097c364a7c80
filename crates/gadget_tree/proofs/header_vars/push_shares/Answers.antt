use Rattle.std.proofs.Common.{◌∙◌, ◌+◌, ◌*◌, ap, ℕ, List}
use Rattle.gadget_model.specs.Circuit.{share, Variable}
use Rattle.gadget_tree.specs.Variables.{share_name}
use Rattle.gadget_tree.specs.Seen.{variables_of}
use Rattle.gadget_tree.proofs.Pushes.{map-range_push}
use Rattle.gadget_tree.proofs.SeenVariables.{variables_of-push}
use Rattle.gadget_tree.proofs.header_vars.push_shares.Goals as goal

pub loop-index-preserved : goal.loop-index-preserved
loop-index-preserved c =
    let f = λ (i : ℕ). let v : Variable = record { name = share_name c.args.stem.now i; node = share (16 * c.args.input + i); line = c.args.line } in v in
    ap variables_of c.in_ok-push.ensures.items ∙ variables_of-push c.loop-index.vars.items _
    ∙ map-range_push f (variables_of c.args.vars.now.items) (variables_of c.loop-index.vars.items) c.loop-index.index _ c.loop-index.invariant
    (ap (λ (name : List ℕ). let v : Variable = record { name = name; node = share (16 * c.args.input + c.loop-index.index); line = c.args.line } in v) c.in_ok-share_name.ensures)
