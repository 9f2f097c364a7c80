use Rattle.std.proofs.Common.{◌≡◌, ◌++◌, ◌∷◌, sym, ap, ◌∙◌, List, ℕ, None, Some, length, arith}
use Rattle.std.proofs.lemmas.Slice.Eq.{strip_prefix_is}
use Rattle.std.proofs.lemmas.Bool.{ne_eqb}
use Rattle.std.proofs.lemmas.Bool.Decides.{Decides-eqb}
use Rattle.std.proofs.lemmas.List.{append_cancel_left}
use Rattle.gadget_tree.proofs.TakenNames.{not-inner, inner-from_digits}
use Rattle.gadget_tree.proofs.inner_names.is_inner_name.Goals as goal

pub returns-in_default : goal.returns-in_default
returns-in_default c =
    not-inner c.args.name.now c.args.count c.args.word.now
    (λ digits e. strip_prefix_is Decides-eqb c.args.word.now c.args.name.now None c.in_default.ensures.cases (46 ∷ digits) e)

pub returns-in_default-split_first : goal.returns-in_default-split_first
returns-in_default-split_first c =
    let whole = strip_prefix_is Decides-eqb c.args.word.now c.args.name.now (Some c.in-Some.rest) c.in-Some.ensures.cases in
    not-inner c.args.name.now c.args.count c.args.word.now
    (λ digits e. let f = ap length (append_cancel_left c.args.name.now c.in-Some.rest.now (46 ∷ digits) (sym whole ∙ e)) in omega (arith, f, c.in_default-split_first.ensures.cases))

pub returns-then-dot-eq46 : goal.returns-then-dot-eq46
returns-then-dot-eq46 c =
    let whole = strip_prefix_is Decides-eqb c.args.word.now c.args.name.now (Some c.in-Some.rest) c.in-Some.ensures.cases in
    c.is_number_below.ensures
    ∙ inner-from_digits c.args.name.now c.args.count c.args.word.now c.in-Some-split_first.digits.now (omega arith)
    (whole ∙ ap (λ (rest : List ℕ). c.args.name.now ++ rest) c.in-Some-split_first.ensures.cases.0 ∙ ap (λ (b : ℕ). c.args.name.now ++ b ∷ c.in-Some-split_first.digits.now) c.if-dot-eq46.true)

pub returns-else-dot-eq46 : goal.returns-else-dot-eq46
returns-else-dot-eq46 c =
    let whole = strip_prefix_is Decides-eqb c.args.word.now c.args.name.now (Some c.in-Some.rest) c.in-Some.ensures.cases in
    let dot = c.in-Some-split_first.dot.now in
    ne_eqb dot 46 c.if-dot-eq46.false
    ∙ not-inner c.args.name.now c.args.count c.args.word.now
    (λ digits e. let f : dot ∷ c.in-Some-split_first.digits.now ≡ 46 ∷ digits = sym c.in-Some-split_first.ensures.cases.0 ∙ append_cancel_left c.args.name.now c.in-Some.rest.now (46 ∷ digits) (sym whole ∙ e) in
    c.if-dot-eq46.false cc)
