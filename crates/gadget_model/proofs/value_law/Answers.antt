use Rattle.gadget_model.proofs.Values.{value-node}
use Rattle.gadget_model.proofs.value_law.Goals as goal

pub returns : goal.returns
returns c = value-node
