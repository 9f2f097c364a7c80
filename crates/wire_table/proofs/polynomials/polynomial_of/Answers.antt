use Rattle.gadget_limits.specs.Limits.{most_randoms}
use Rattle.std.proofs.Common.{ℕ, List, length, sym, subst, arith}
use Rattle.gadget_model.specs.Circuit.{NamesEarlier}
use Rattle.gadget_tree.specs.declared.var.VarKind.{VarKind}
use Rattle.gadget_tree.specs.Seen.{node_of}
use Rattle.anf.specs.Polynomials.{HasFewVariables}
use Rattle.wire_table.proofs.polynomials.polynomial_of.Goals as goal

pub product-requires-clause-few_a : goal.product-requires-clause-few_a
product-requires-clause-few_a c =
    let P : List ℕ → Type 0 = λ p. HasFewVariables p in
    let N : VarKind → Type 0 = λ kind. NamesEarlier most_randoms (length c.args.earlier.now) (node_of kind) in
    let named = subst N c.in-Product.is c.requires.named in
    let at = c.index-earlier-from-in-Product in
    let e = c.from-in-Product.ensures in
    subst P (sym at.is) (c.requires.few c.from-in-Product.result at.result (omega (arith, named.0)))

pub product-requires-clause-few_b : goal.product-requires-clause-few_b
product-requires-clause-few_b c =
    let P : List ℕ → Type 0 = λ p. HasFewVariables p in
    let N : VarKind → Type 0 = λ kind. NamesEarlier most_randoms (length c.args.earlier.now) (node_of kind) in
    let named = subst N c.in-Product.is c.requires.named in
    let at = c.index-earlier-from-in-Product-2 in
    let e = c.from-in-Product-2.ensures in
    subst P (sym at.is) (c.requires.few c.from-in-Product-2.result at.result (omega (arith, named.1)))
