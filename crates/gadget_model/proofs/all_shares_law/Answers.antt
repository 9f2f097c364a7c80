use Rattle.gadget_model.proofs.Simulations.{IsSimulatable-all_shares}
use Rattle.gadget_model.proofs.all_shares_law.Goals as goal

pub returns : goal.returns
returns c = IsSimulatable-all_shares
