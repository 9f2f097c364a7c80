-- The code's variable has the name that the model's has.
use Rattle.gadget_tree.proofs.Printing.{name_at-variables_of}
use Rattle.gadget_tree.proofs.name_order.name_of.Goals as goal

pub returns : goal.returns
returns c = let named = name_at-variables_of c.args.vars.now c.args.number c.index-vars-from.result c.requires in cc
