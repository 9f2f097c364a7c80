use Rattle.std.proofs.Common.{ℕ, sym, subst}
use Rattle.wire_table.specs.declared.terms.Term.TheVariants.{Product}
use Rattle.anf.specs.Polynomials.{set_of}
use Rattle.wire_table.specs.Terms.{IsTermOf}
use Rattle.wire_table.proofs.Monomials.{IsTermOf-found, IsTermOf-not_found, IsFitMonomial-within, small_shares}
use Rattle.wire_table.proofs.terms.term_of.Goals as goal

pub random-requires : goal.random-requires
random-requires c = IsFitMonomial-within c.args.gadget.now c.vars-vars.result.now c.vars-vars.ensures.variables c.args.monomial.now c.requires

pub share_set-requires-clause-small : goal.share_set-requires-clause-small
share_set-requires-clause-small c = small_shares c.args.gadget.now c.vars-vars.result.now c.vars-vars.ensures.gadget c.vars-vars.ensures.variables

pub share_set-requires-clause-within : goal.share_set-requires-clause-within
share_set-requires-clause-within c = IsFitMonomial-within c.args.gadget.now c.vars-vars.result.now c.vars-vars.ensures.variables c.args.monomial.now c.requires

pub returns-in-Some-clause-term : goal.returns-in-Some-clause-term
returns-in-Some-clause-term c =
    IsTermOf-found c.args.gadget.now c.vars-vars.result.now c.vars-vars.ensures.gadget c.vars-vars.ensures.variables c.args.monomial.now c.in-Some.k c.requires c.in-Some.ensures

pub returns-in-None-clause-term : goal.returns-in-None-clause-term
returns-in-None-clause-term c =
    let P : ℕ → Type 0 = λ set. IsTermOf c.args.gadget.now (set_of c.args.monomial.now) (Product set) in
    subst P (sym c.share_set.ensures)
    (IsTermOf-not_found c.args.gadget.now c.vars-vars.result.now c.vars-vars.ensures.gadget c.vars-vars.ensures.variables c.args.monomial.now c.requires c.in-None.ensures)
