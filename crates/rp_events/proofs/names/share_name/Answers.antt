use Rattle.std.proofs.Common.{◌<◌, length, arith}
use Rattle.std.proofs.lemmas.Grind.{common_steps}
use Rattle.gadget_tree.proofs.Printing.{name_at-variables_of}
use Rattle.rp_events.proofs.names.share_name.Goals as goal

pub returns : goal.returns
returns c =
    let there : c.from.result < length c.vars-vars.result.now = grind (arith, common_steps) in
    let named = name_at-variables_of c.vars-vars.result.now c.from.result c.index-vars-from.result there in
    cc
