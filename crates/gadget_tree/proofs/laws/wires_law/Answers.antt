use Rattle.gadget_tree.proofs.FileWires.{file_wires}
use Rattle.gadget_tree.proofs.laws.wires_law.Goals as goal

pub returns : goal.returns
returns c = file_wires
