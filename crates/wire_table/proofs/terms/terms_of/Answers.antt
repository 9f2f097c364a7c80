use Rattle.std.proofs.Common.{ℕ, List, [], Vec, Global, ap, sym, ◌∙◌, subst}
use Rattle.wire_table.proofs.TermSums.{SumTo-nil, SumTo-more_random, SumTo-more_product, IsFitMonomial-at}
use Rattle.wire_table.specs.Terms.{SumTo}
use Rattle.wire_table.proofs.terms.terms_of.Goals as goal
use Rattle.wire_table.proofs.terms.terms_of.Goals.{in-Random, in-Product+in_ok-push-in-Product}

pub loop-monomial-init : goal.loop-monomial-init
loop-monomial-init c =
    let P : List ℕ → Type 0 = λ ps. SumTo c.args.gadget.now [] 0 ps in
    subst P (sym c.new-products.ensures.items) (SumTo-nil c.args.gadget.now)

pub term_of-requires : goal.term_of-requires
term_of-requires c =
    let items = c.monomials-monomial-items in
    IsFitMonomial-at c.args.gadget.now c.args.polynomial.now items.result.now c.loop-monomial.monomial-index c.monomial-item.result c.as_slice.result.now
    c.requires items.ensures.sets items.ensures.rising c.loop-monomial-test.true c.monomial-item.is c.as_slice.ensures

pub loop-monomial-preserved : goal.loop-monomial-preserved
loop-monomial-preserved c =
    let ms = c.monomials-monomial-items.result.now in
    let l = c.loop-monomial in
    elim c.match-term_of.branch [
      | in-Random w ↦
          SumTo-more_random c.args.gadget.now ms l.monomial-index c.monomial-item.result c.as_slice.result.now w.in-Random.k l.randoms c.match-term_of.randoms
          l.products.items c.match-term_of.products.items c.loop-monomial-test.true c.monomial-item.is c.as_slice.ensures l.invariant
          w.in-Random.ensures.term w.in-Random.ensures.gadget.few_randoms w.randoms-is (ap (λ (v : Vec ℕ Global). v.items) w.products-is)
      | in-Product+in_ok-push-in-Product w ↦
          SumTo-more_product c.args.gadget.now ms l.monomial-index c.monomial-item.result c.as_slice.result.now w.in-Product.set l.randoms c.match-term_of.randoms
          l.products.items c.match-term_of.products.items c.loop-monomial-test.true c.monomial-item.is c.as_slice.ensures l.invariant
          w.in-Product.ensures.term w.randoms-is (ap (λ (v : Vec ℕ Global). v.items) w.products-is ∙ w.in_ok-push-in-Product.ensures.items)
    ]
