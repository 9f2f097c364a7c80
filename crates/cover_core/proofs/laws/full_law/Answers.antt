use Rattle.cover_core.specs.Core.{question_of}
use Rattle.cover_core.proofs.Seen.{full-fewer, full-many}
use Rattle.cover_core.proofs.laws.full_law.Goals as goal

pub returns-clause-many : goal.returns-clause-many
returns-clause-many g c = λ items size seat code s v ok. full-many (question_of items size g.F.Failing.Fails) s ok seat v code

pub returns-clause-fewer : goal.returns-clause-fewer
returns-clause-fewer g c = λ items size seat t s v ok. full-fewer (question_of items size g.F.Failing.Fails) s ok seat v t
