use Rattle.std.proofs.Common.{take}
use Rattle.std.specs.List.{AllZip}
use Rattle.wire_table.specs.Terms.{AreTermsOf}
use Rattle.wire_table.proofs.terms.all_terms.Given as goal

abbrev pub invariant-loop-polynomial : goal.invariant-loop-polynomial
invariant-loop-polynomial l = AllZip (AreTermsOf l.gadget) (take l.polynomial-index l.polynomials) l.terms.items
