use Rattle.std.proofs.Common.{List, ap, ◌∙◌, length, arith}
use Rattle.gadget_model.specs.Circuit.{Variable}
use Rattle.std.proofs.lemmas.List.{length-map}
use Rattle.gadget_headers.specs.Seen.{preamble_in}
use Rattle.gadget_tree.specs.Seen.{variable_of}
use Rattle.gadget_tree.specs.Variables.{names_of, are_distinct}
use Rattle.gadget_tree.proofs.MadeGadgets.{header_distinct, header_few}
use Rattle.gadget_tree.proofs.start.named_variables.Goals as goal

pub indexed-requires-clause-distinct : goal.indexed-requires-clause-distinct
indexed-requires-clause-distinct c =
    let h = preamble_in c.args.bytes.now c.args.headers.now in
    ap (λ (vs : List Variable). are_distinct (names_of vs)) c.in_ok-vars.ensures ∙ header_distinct h c.requires.limits c.in_ok-check_names.ensures

pub indexed-requires-clause-few : goal.indexed-requires-clause-few
indexed-requires-clause-few c =
    let h = preamble_in c.args.bytes.now c.args.headers.now in
    let few = header_few h c.requires.limits c.in_ok-check_names.ensures in
    let same = ap (λ (vs : List Variable). length vs) c.in_ok-vars.ensures in
    let l = length-map c.in_ok-vars.vars.items variable_of in
    omega arith
