use Rattle.std.proofs.Common.{ℕ, List, ap, sym, ◌∙◌, subst}
use Rattle.std.specs.Prelude.{IfOk}
use Rattle.gadget_model.specs.Polynomials.{odd_ones, unions}
use Rattle.anf.specs.Polynomials.{IsSetOf}
use Rattle.anf.specs.Monomials.{sets_of, AreFactors}
use Rattle.anf.proofs.FewVariables.{AreFactors-from_few}
use Rattle.anf.proofs.arithmetic.product.Goals as goal

pub all_unions-requires-clause-a : goal.all_unions-requires-clause-a
all_unions-requires-clause-a c = subst AreFactors (sym c.deref.ensures.value) (AreFactors-from_few _ _ c.a.view_is c.a.invariant c.requires.few_a)

pub all_unions-requires-clause-b : goal.all_unions-requires-clause-b
all_unions-requires-clause-b c = subst AreFactors (sym c.deref-2.ensures.value) (AreFactors-from_few _ _ c.b.view_is c.b.invariant c.requires.few_b)

pub returns-clause-product : goal.returns-clause-product
returns-clause-product c =
    let same =
    c.in_ok-keys.ensures.unions
    ∙ ap (λ (p : List ℕ). unions p (sets_of c.deref-2.result.now)) (ap sets_of c.deref.ensures.value ∙ c.a.view_is)
    ∙ ap (unions c.args.a.now) (ap sets_of c.deref-2.ensures.value ∙ c.b.view_is) in
    subst (λ (p : List ℕ). IfOk c.odd_ones.result (IsSetOf (odd_ones p))) same c.odd_ones.ensures.odd
