use Rattle.std.proofs.Common.{Bool, List, ◌||◌, sym, ap, ◌∙◌}
use Rattle.std.specs.List.{list_any}
use Rattle.gadget_model.specs.Circuit.{Variable}
use Rattle.gadget_tree.specs.Made.{inner_names}
use Rattle.gadget_tree.specs.Variables.{names_of, is_among}
use Rattle.gadget_tree.proofs.TakenNames.{some-taken}
use Rattle.gadget_tree.proofs.inner_names.is_some_taken.Goals as goal

pub returns-then-has_inner_name : goal.returns-then-has_inner_name
returns-then-has_inner_name c =
    let names = names_of c.args.variables.now in
    let inner = inner_names c.args.name.now c.args.count in
    let found = c.has_inner_name.ensures ∙ ap (λ (vs : List Variable). list_any (is_among inner) (names_of vs)) c.as_slice.ensures in
    c.if-has_inner_name.true ∙ sym (ap (λ (b : Bool). b || is_among names c.args.name.now) (sym found ∙ c.if-has_inner_name.true)) ∙ some-taken names c.args.name.now c.args.count

pub returns-else-has_inner_name : goal.returns-else-has_inner_name
returns-else-has_inner_name c =
    let names = names_of c.args.variables.now in
    let inner = inner_names c.args.name.now c.args.count in
    let found = c.has_inner_name.ensures ∙ ap (λ (vs : List Variable). list_any (is_among inner) (names_of vs)) c.as_slice.ensures in
    c.has.ensures ∙ sym (ap (λ (b : Bool). b || is_among names c.args.name.now) (sym found ∙ c.if-has_inner_name.false)) ∙ some-taken names c.args.name.now c.args.count
