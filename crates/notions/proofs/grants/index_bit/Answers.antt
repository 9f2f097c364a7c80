use Rattle.notions.proofs.IndexBits.{shifted_bit}
use Rattle.notions.proofs.grants.index_bit.Goals as goal

pub returns-in-Output : goal.returns-in-Output
returns-in-Output c = shifted_bit c.args.item.now.kind c.in-Output.index c.in-Output.is c.requires
