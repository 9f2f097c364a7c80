use Rattle.gadget_model.proofs.Simulations.{IsSimulatable-fewer}
use Rattle.gadget_model.proofs.monotone_law.Goals as goal

pub returns : goal.returns
returns c = IsSimulatable-fewer
