use Rattle.std.proofs.Common.{◌<◌, sym, ◌∙◌, length, arith}
use Rattle.std.proofs.lemmas.Bool.{false_from_ne_true}
use Rattle.gadget_tree.specs.Seen.{variables_of}
use Rattle.gadget_tree.specs.Variables.{names_of, is_among}
use Rattle.gadget_tree.proofs.NameOrder.{not-found, found-at, name-seen}
use Rattle.gadget_tree.proofs.name_order.number_of.Goals as goal

pub returns-then-place-numbers-clause-among : goal.returns-then-place-numbers-clause-among
returns-then-place-numbers-clause-among c =
    let names = names_of (variables_of c.args.vars.now) in
    sym (false_from_ne_true (is_among names c.args.name.now)
    (not-found c.args.vars.now c.args.numbers.now c.args.name.now c.rank-place.result c.requires c.rank-place.ensures (λ l e. absurd (omega (arith, c.if-place-numbers.true)))))

pub returns-then-not-is-clause-among : goal.returns-then-not-is-clause-among
returns-then-not-is-clause-among c =
    let names = names_of (variables_of c.args.vars.now) in
    sym (false_from_ne_true (is_among names c.args.name.now)
    (not-found c.args.vars.now c.args.numbers.now c.args.name.now c.rank-place.result c.requires c.rank-place.ensures
    (λ l e.
    let seen = name-seen c.args.vars.now c.args.numbers.now c.rank-place.result c.from.result c.index-vars-from.result c.requires l c.from.ensures in
    let same = c.is.ensures.1 (seen.1 ∙ e) in
    absurd cc)))

pub returns-clause-among : goal.returns-clause-among
returns-clause-among c =
    let inside : c.rank-place.result < length c.args.numbers.now = omega (arith, c.rank-place.ensures.within, c.if-place-numbers.false) in
    let seen = name-seen c.args.vars.now c.args.numbers.now c.rank-place.result c.from.result c.index-vars-from.result c.requires inside c.from.ensures in
    let found = found-at c.args.vars.now c.args.numbers.now c.args.name.now c.rank-place.result c.requires inside (sym seen.1 ∙ c.is.ensures.0 c.if-not-is.false) in
    sym found.0

pub returns-clause-place : goal.returns-clause-place
returns-clause-place c =
    let inside : c.rank-place.result < length c.args.numbers.now = omega (arith, c.rank-place.ensures.within, c.if-place-numbers.false) in
    let seen = name-seen c.args.vars.now c.args.numbers.now c.rank-place.result c.from.result c.index-vars-from.result c.requires inside c.from.ensures in
    let found = found-at c.args.vars.now c.args.numbers.now c.args.name.now c.rank-place.result c.requires inside (sym seen.1 ∙ c.is.ensures.0 c.if-not-is.false) in
    found.1
