use Rattle.gadget_model.proofs.WirePolynomials.{once-polynomial, leaves-polynomial}
use Rattle.gadget_model.proofs.PolynomialValues.{value-polynomial}
use Rattle.gadget_model.proofs.polynomial_law.Goals as goal

pub returns-clause-value : goal.returns-clause-value
returns-clause-value c = value-polynomial

pub returns-clause-once : goal.returns-clause-once
returns-clause-once c = once-polynomial

pub returns-clause-leaves : goal.returns-clause-leaves
returns-clause-leaves c = leaves-polynomial
