use Rattle.check_workers.proofs.Steps.{worked_look, worked_published}
use Rattle.check_workers.proofs.one.store_failing.Goals as goal

pub returns-in-Full-clause-worked : goal.returns-in-Full-clause-worked
returns-in-Full-clause-worked g c = worked_look _ _ _ _ c.in-Full.ensures.answer.0

pub returns-in-Already-clause-worked : goal.returns-in-Already-clause-worked
returns-in-Already-clause-worked g c = worked_look _ _ _ _ c.in-Already.ensures.answer.0

pub returns-in-Kept-clause-worked : goal.returns-in-Kept-clause-worked
returns-in-Kept-clause-worked g c = worked_published _ _ _ _ c.in-Kept.ensures.answer.0
