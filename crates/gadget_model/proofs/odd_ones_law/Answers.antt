use Rattle.gadget_model.proofs.Polynomials.{stands_in-odd_ones}
use Rattle.gadget_model.proofs.odd_ones_law.Goals as goal

pub returns : goal.returns
returns c = stands_in-odd_ones
