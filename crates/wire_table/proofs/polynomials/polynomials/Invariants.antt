use Rattle.std.proofs.Common.{◌≡◌, length}
use Rattle.wire_table.specs.WirePolynomials.{ArePolynomials}
use Rattle.wire_table.proofs.polynomials.polynomials.Given as goal

abbrev pub invariant-loop-var : goal.invariant-loop-var
invariant-loop-var l = record {
  every : length l.polynomials.items ≡ l._var-index;
  polynomials : ArePolynomials l.gadget l.polynomials.items;
}
