use Rattle.gadget_model.proofs.Simulations.{IsSimulatable-nil}
use Rattle.gadget_model.proofs.no_probes_law.Goals as goal

pub returns : goal.returns
returns c = IsSimulatable-nil
