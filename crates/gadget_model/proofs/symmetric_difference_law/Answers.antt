use Rattle.gadget_model.proofs.Polynomials.{stands_in-symmetric_difference}
use Rattle.gadget_model.proofs.symmetric_difference_law.Goals as goal

pub returns : goal.returns
returns c = stands_in-symmetric_difference
