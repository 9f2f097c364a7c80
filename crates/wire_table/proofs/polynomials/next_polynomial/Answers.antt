use Rattle.gadget_limits.specs.Limits.{most_randoms}
use Rattle.std.proofs.Common.{length, get_or, refl, Err, ap, ◌∙◌}
use Rattle.gadget_tree.specs.Seen.{node_of}
use Rattle.wire_table.proofs.Faults.{IsLineOf-at}
use Rattle.wire_table.proofs.WirePolynomials.{node_at_place, NamesEarlier-more, IsSetOf-next, IsTooWide-next, all_once, all_few}
use Rattle.wire_table.proofs.polynomials.next_polynomial.Goals as goal

pub polynomial_of-requires-clause-named : goal.polynomial_of-requires-clause-named
polynomial_of-requires-clause-named c =
    let g = c.args.gadget.now in
    let vars = c.vars-vars in
    let n = length c.args.earlier.now in
    let d = c.index-vars-number-2.result in
    let node = node_of (get_or vars.result.now n d).kind in
    NamesEarlier-more g.randoms most_randoms n node vars.ensures.gadget.few_randoms
    (vars.ensures.gadget.in_order n node (node_at_place g vars.result.now n d vars.ensures.variables c.requires.there))

pub polynomial_of-requires-clause-once : goal.polynomial_of-requires-clause-once
polynomial_of-requires-clause-once c = all_once c.args.gadget.now c.args.earlier.now c.requires.earlier

pub polynomial_of-requires-clause-few : goal.polynomial_of-requires-clause-few
polynomial_of-requires-clause-few c = all_few c.args.gadget.now c.vars-vars.ensures.gadget c.args.earlier.now c.requires.earlier

pub returns-in-Err-TooWide-clause-refused : goal.returns-in-Err-TooWide-clause-refused
returns-in-Err-TooWide-clause-refused c =
    let g = c.args.gadget.now in
    let vars = c.vars-vars in
    let n = length c.args.earlier.now in
    let d = c.index-vars-number-2.result in
    let node = node_of (get_or vars.result.now n d).kind in (
      record {
        exists = c.requires.there;
        has = IsTooWide-next g vars.ensures.gadget c.args.earlier.now c.requires.earlier node
            (node_at_place g vars.result.now n d vars.ensures.variables c.requires.there)
            (c.polynomial_of.ensures.too_wide (c.in-Err-TooWide.is ∙ ap (λ e. Err e) c.in-Err-TooWide.field-0-is));
        first = λ v l. (c.requires.earlier v l).fit;
      },
      IsLineOf-at g vars.result.now n n c.index-vars-number.result vars.ensures.variables refl c.requires.there,
    )

pub check_class-requires-clause-same : goal.check_class-requires-clause-same
check_class-requires-clause-same c =
    let g = c.args.gadget.now in
    let vars = c.vars-vars in
    let n = length c.args.earlier.now in
    let d = c.index-vars-number-2.result in
    IsSetOf-next g vars.ensures.gadget c.args.earlier.now c.requires.earlier (node_of (get_or vars.result.now n d).kind)
    (node_at_place g vars.result.now n d vars.ensures.variables c.requires.there) c.in-Ok.found c.in-Ok.ensures.ok

pub returns-clause-polynomial : goal.returns-clause-polynomial
returns-clause-polynomial c =
    let g = c.args.gadget.now in
    let vars = c.vars-vars in
    let n = length c.args.earlier.now in
    let d = c.index-vars-number-2.result in
    record {
      fit = c.in_ok-check_class.ensures;
      same = IsSetOf-next g vars.ensures.gadget c.args.earlier.now c.requires.earlier (node_of (get_or vars.result.now n d).kind)
          (node_at_place g vars.result.now n d vars.ensures.variables c.requires.there) c.in-Ok.found c.in-Ok.ensures.ok;
    }
