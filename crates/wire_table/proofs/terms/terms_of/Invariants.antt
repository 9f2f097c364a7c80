use Rattle.std.proofs.Common.{take}
use Rattle.anf.specs.Monomials.{sets_of}
use Rattle.wire_table.specs.Terms.{SumTo}
use Rattle.wire_table.proofs.terms.terms_of.Given as goal

abbrev pub invariant-loop-monomial : goal.invariant-loop-monomial
invariant-loop-monomial l = SumTo l.gadget (sets_of (take l.monomial-index l.monomial-items)) l.randoms l.products.items
