use Rattle.gadget_model.proofs.Simulations.{HasShare-clear}
use Rattle.gadget_model.proofs.clear_share_law.Goals as goal

pub returns : goal.returns
returns c = HasShare-clear
