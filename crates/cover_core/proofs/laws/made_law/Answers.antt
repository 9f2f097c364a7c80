use Rattle.cover_core.specs.Core.{question_of}
use Rattle.cover_core.proofs.Made.{made-once, made-stored, stored-made}
use Rattle.cover_core.proofs.laws.made_law.Goals as goal

pub returns-clause-stored : goal.returns-clause-stored
returns-clause-stored g c = λ items size place code s ok. stored-made (question_of items size g.F.Failing.Fails) s ok place code

pub returns-clause-made : goal.returns-clause-made
returns-clause-made g c = λ items size seat code s v ok. made-stored (question_of items size g.F.Failing.Fails) s ok seat v code

pub returns-clause-once : goal.returns-clause-once
returns-clause-once g c = λ items size seat other code s v w ok. made-once (question_of items size g.F.Failing.Fails) s ok seat other v w code
