use Rattle.std.proofs.Common.{◌≤◌, ℕ, List, map, length, Contains, ap, sym, ◌∙◌, subst}
use Rattle.std.specs.List.{All}
use Rattle.wire_table.specs.declared.terms.Terms.{Terms}
use Rattle.wire_table.specs.Tables.{IsTable, StandsFor, most_products}
use Rattle.wire_table.specs.Terms.{IsFitPolynomial, products_of}
use Rattle.wire_table.proofs.WirePolynomials.{all_fit}
use Rattle.wire_table.proofs.MadeTables.{all_among, few_from_terms, Parts-from_slices, IsTable-made, StandsFor-made}
use Rattle.wire_table.proofs.table.WireTable.make.Goals as goal

pub all_terms-requires : goal.all_terms-requires
all_terms-requires c =
    let g = c.args.gadget.now in
    subst (All (IsFitPolynomial g)) (sym c.deref.ensures.value)
    (all_fit g c.vars-vars.ensures.gadget c.in_ok-polynomials.polynomials.items c.in_ok-polynomials.ensures.polynomials)

pub share_rows-requires-clause-few : goal.share_rows-requires-clause-few
share_rows-requires-clause-few c =
    let g = c.args.gadget.now in
    let products = c.in_ok-products.products.items in
    let P : List ℕ → Type 0 = λ ps. length ps ≤ most_products in
    subst P (sym c.deref-4.ensures.value)
    (few_from_terms g c.vars-vars.ensures.gadget c.deref.result.now c.in_ok-terms.terms.items products c.in_ok-terms.ensures c.in_ok-products.ensures.rising
    (let T : List Terms → Type 0 = λ ts. (set : ℕ) → Contains products set → Contains (products_of ts) set in
    subst T c.deref-2.ensures.value c.in_ok-products.ensures.no_others))

pub share_rows-requires-clause-among : goal.share_rows-requires-clause-among
share_rows-requires-clause-among c =
    let products = c.in_ok-products.products.items in
    let T : List Terms → Type 0 = λ ts. (set : ℕ) → Contains (products_of ts) set → Contains products set in
    let P : List ℕ → Type 0 = λ ps. All (λ t. All (Contains ps) t.products.items) c.deref-5.result.now in
    subst P (sym c.deref-4.ensures.value)
    (all_among c.deref-5.result.now products (subst T (c.deref-2.ensures.value ∙ sym c.deref-5.ensures.value) c.in_ok-products.ensures.all))

pub invariant_of-result : goal.invariant_of-result
invariant_of-result c =
    let g = c.args.gadget.now in
    let vars = c.vars-vars in
    let ps = c.in_ok-polynomials in
    let terms = c.in_ok-terms.terms.items in
    let products = c.in_ok-products in
    let rows = c.in_ok-share_rows.share_rows.items in
    let uses = c.in_ok-uses.uses.items in
    let parts = Parts-from_slices g vars.result.now ps.polynomials.items c.deref.result.now terms c.deref-2.result.now c.deref-5.result.now products.products.items
    c.deref-4.result.now rows uses c.deref.ensures.value c.deref-2.ensures.value c.deref-4.ensures.value c.deref-5.ensures.value vars.ensures.gadget
    vars.ensures.variables ps.ensures.every ps.ensures.polynomials c.in_ok-terms.ensures products.ensures.rising products.ensures.no_others c.in_ok-share_rows.ensures
    c.in_ok-uses.ensures in
    let P : List ℕ → Type 0 = λ rs. IsTable (record { random_rows = rs; share_rows = map (λ row. row.items) rows; products = products.products.items; uses = uses }) in
    subst P (ap (map (λ t. t.randoms)) (sym c.deref-3.ensures.value) ∙ sym c.in_ok-random_rows.ensures)
    (IsTable-made g vars.result.now ps.polynomials.items terms products.products.items rows uses parts)

pub returns-clause-stands : goal.returns-clause-stands
returns-clause-stands c =
    let g = c.args.gadget.now in
    let vars = c.vars-vars in
    let ps = c.in_ok-polynomials in
    let terms = c.in_ok-terms.terms.items in
    let products = c.in_ok-products in
    let rows = c.in_ok-share_rows.share_rows.items in
    let uses = c.in_ok-uses.uses.items in
    let parts = Parts-from_slices g vars.result.now ps.polynomials.items c.deref.result.now terms c.deref-2.result.now c.deref-5.result.now products.products.items
    c.deref-4.result.now rows uses c.deref.ensures.value c.deref-2.ensures.value c.deref-4.ensures.value c.deref-5.ensures.value vars.ensures.gadget
    vars.ensures.variables ps.ensures.every ps.ensures.polynomials c.in_ok-terms.ensures products.ensures.rising products.ensures.no_others c.in_ok-share_rows.ensures
    c.in_ok-uses.ensures in
    let P : List ℕ → Type 0 = λ rs. StandsFor (record { random_rows = rs; share_rows = map (λ row. row.items) rows; products = products.products.items; uses = uses }) g in
    subst P (ap (map (λ t. t.randoms)) (sym c.deref-3.ensures.value) ∙ sym c.in_ok-random_rows.ensures)
    (StandsFor-made g vars.result.now ps.polynomials.items terms products.products.items rows uses parts)
