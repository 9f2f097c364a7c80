use Rattle.std.proofs.Common.{length, ap, sym, ◌∙◌, subst, arith}
use Rattle.gadget_model.specs.Polynomials.{polynomial}
use Rattle.anf.specs.Polynomials.{IsSetOf}
use Rattle.wire_table.proofs.Faults.{monomials_within, random_product_from_test, degree_from_tests, IsFit-from_tests, IsLineOf-at}
use Rattle.wire_table.proofs.class_check.check_class.Goals as goal

pub any_multiplies_random-requires : goal.any_multiplies_random-requires
any_multiplies_random-requires c =
    let g = c.args.gadget.now in
    monomials_within g c.vars-vars.result.now c.vars-vars.ensures.gadget c.vars-vars.ensures.variables c.args.var c.monomials-monomials.result.now
    (subst (IsSetOf (polynomial g c.args.var)) (sym c.monomials-monomials.ensures.sets) c.requires.same)

pub returns-then-any_multiplies_random : goal.returns-then-any_multiplies_random
returns-then-any_multiplies_random c =
    let g = c.args.gadget.now in
    let vars = c.vars-vars in
    let ms = c.monomials-monomials in (
      record {
        exists = c.requires.there;
        has = random_product_from_test g vars.result.now vars.ensures.gadget vars.ensures.variables c.args.var ms.result.now
            (subst (IsSetOf (polynomial g c.args.var)) (sym ms.ensures.sets) c.requires.same)
            (let e = ap length ms.ensures.sets in let f = ms.ensures.few in omega arith) ms.ensures.rising
            (sym c.any_multiplies_random.ensures ∙ c.if-any_multiplies_random.true);
        first = c.requires.first;
      },
      IsLineOf-at g vars.result.now c.args.var c.from.result c.index-vars-from.result vars.ensures.variables c.from.ensures c.requires.there,
    )

pub returns-then-any_above_two : goal.returns-then-any_above_two
returns-then-any_above_two c =
    let g = c.args.gadget.now in
    let vars = c.vars-vars in
    let ms = c.monomials-monomials in (
      record {
        exists = c.requires.there;
        has = degree_from_tests g vars.result.now vars.ensures.gadget vars.ensures.variables c.args.var ms.result.now
            (subst (IsSetOf (polynomial g c.args.var)) (sym ms.ensures.sets) c.requires.same)
            (let e = ap length ms.ensures.sets in let f = ms.ensures.few in omega arith) ms.ensures.rising
            (sym c.any_multiplies_random.ensures ∙ c.if-any_multiplies_random.false) (sym c.any_above_two.ensures ∙ c.if-any_above_two.true);
        first = c.requires.first;
      },
      IsLineOf-at g vars.result.now c.args.var c.from.result c.index-vars-from.result vars.ensures.variables c.from.ensures c.requires.there,
    )

pub returns : goal.returns
returns c =
    let g = c.args.gadget.now in
    let ms = c.monomials-monomials in
    IsFit-from_tests g c.vars-vars.result.now c.vars-vars.ensures.variables c.args.var ms.result.now
    (subst (IsSetOf (polynomial g c.args.var)) (sym ms.ensures.sets) c.requires.same)
    (let e = ap length ms.ensures.sets in let f = ms.ensures.few in omega arith)
    (sym c.any_multiplies_random.ensures ∙ c.if-any_multiplies_random.false) (sym c.any_above_two.ensures ∙ c.if-any_above_two.false)
