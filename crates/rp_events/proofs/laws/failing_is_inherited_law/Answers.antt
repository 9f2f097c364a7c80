use Rattle.rp_events.proofs.Inherited.{FailsEvent-inherited}
use Rattle.rp_events.proofs.laws.failing_is_inherited_law.Goals as goal

pub returns : goal.returns
returns c = FailsEvent-inherited
