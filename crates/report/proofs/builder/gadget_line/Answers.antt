-- The format joins its pieces from the right, and the calls tell what it writes of the gadget.
use Rattle.std.proofs.Common.{◌≡◌, ◌∙◌, ap, sym, length, append_assoc}
use Rattle.std.proofs.lemmas.List.{length-map}
use Rattle.gadget_tree.specs.Seen.{variable_of}
use Rattle.report.specs.Report.{gadget_line}
use Rattle.report.proofs.builder.gadget_line.Goals as goal

pub returns : goal.returns
unfolding gadget_line
returns c =
    let shares : c.args.gadget.now.shares ≡ c.shares-shares.result = sym c.shares-shares.ensures.shares in
    let inputs : length c.args.gadget.now.inputs ≡ length c.inputs.result.now = sym (ap length c.inputs.ensures.inputs) in
    let outputs : length c.args.gadget.now.outputs ≡ length c.outputs.result.now = sym (ap length c.outputs.ensures.outputs) in
    let randoms : c.args.gadget.now.randoms ≡ c.randoms-randoms.result = sym c.randoms-randoms.ensures in
    let variables : length c.args.gadget.now.variables ≡ length c.vars.result.now = sym (ap length c.vars.ensures.variables) ∙ length-map c.vars.result.now variable_of in
    simp append_assoc (rw (shares, inputs, outputs, randoms, variables) c.in_ok-format.ensures.ok)
