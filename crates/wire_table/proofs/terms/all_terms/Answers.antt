use Rattle.wire_table.specs.Terms.{AreTermsOf}
use Rattle.wire_table.proofs.Zips.{AllZip-more}
use Rattle.wire_table.proofs.terms.all_terms.Goals as goal

pub loop-polynomial-preserved : goal.loop-polynomial-preserved
loop-polynomial-preserved c =
    let l = c.loop-polynomial in
    AllZip-more (AreTermsOf c.args.gadget.now) c.args.polynomials.now l.terms.items c.push.new.self.items l.polynomial-index c.polynomial-item.result
    c.in_ok-terms_of.field-0 c.loop-polynomial-test.true c.polynomial-item.is c.in_ok-push.ensures.items l.invariant c.in_ok-terms_of.ensures
