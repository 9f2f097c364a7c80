use Rattle.std.proofs.Common.{ℕ, List, drop, length, refl, ap, subst, ◌∙◌, arith}
use Rattle.std.proofs.lemmas.List.{length_push}
use Rattle.gadget_tree.specs.declared.var.VarKind.TheVariants.{Share}
use Rattle.gadget_tree.specs.Made.{names_made}
use Rattle.gadget_tree.specs.Variables.{names_of, is_among}
use Rattle.gadget_tree.proofs.Adding.{made-step, new-step, made-end}
use Rattle.gadget_tree.proofs.NewNames.{AreNew, made-new, names-drop}
use Rattle.gadget_tree.proofs.line.with_kinds.Goals as goal

pub loop-k-init : goal.loop-k-init
loop-k-init c = record {
  makes = refl;
  fresh = made-new (names_of c.args.variables) c.args.name.now (length c.args.kinds.now) (omega (arith, c.requires.room)) c.requires.fresh;
  longer = omega arith;
}

pub with-requires-clause-fresh : goal.with-requires-clause-fresh
with-requires-clause-fresh c =
    let names = names_of c.loop-k.now in
    let next = subst (λ (ns : List (List ℕ)). AreNew names ns) (names-drop c.args.name.now (length c.args.kinds.now) c.loop-k.k c.loop-k-test.true) c.loop-k.invariant.fresh in
    ap (is_among names) c.in_ok-name.ensures ∙ next.0

pub loop-k-preserved : goal.loop-k-preserved
loop-k-preserved c =
    let kinds = c.args.kinds.now in
    let longer = ap length c.in_ok-now.ensures ∙ length_push c.loop-k.now _ in
    record {
      makes = made-step c.args.line c.loop-k.k c.args.name.now kinds c.loop-k.now c.in_ok-now.now c.in_ok-name.name (Share 0 0) _ c.loop-k-test.true c.in_ok-now.ensures c.in_ok-name.ensures c.loop-k.invariant.makes;
      fresh = new-step c.args.name.now (length kinds) c.loop-k.k c.loop-k.now c.in_ok-now.now _ c.loop-k-test.true c.in_ok-now.ensures c.in_ok-name.ensures c.loop-k.invariant.fresh;
      longer = omega (arith, longer, c.loop-k.invariant.longer);
    }

pub returns : goal.returns
returns c = made-end c.args.line c.loop-k.k (drop c.loop-k.k (names_made c.args.name.now (length c.args.kinds.now))) c.args.kinds.now c.loop-k.now _ c.loop-k-test.false c.loop-k.invariant.makes
