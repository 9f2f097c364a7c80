use Rattle.cover_core.specs.Core.{question_of}
use Rattle.cover_core.proofs.Seen.{seen-coded, seen-fails, seen-one_code, seen-one_place, seen-stands}
use Rattle.cover_core.proofs.laws.seen_law.Goals as goal

pub returns-clause-stands : goal.returns-clause-stands
returns-clause-stands g c = λ items size seat place code s v ok. seen-stands (question_of items size g.F.Failing.Fails) s ok seat v place code

pub returns-clause-coded : goal.returns-clause-coded
returns-clause-coded g c = λ items size seat place code s v ok. seen-coded (question_of items size g.F.Failing.Fails) s ok seat v place code

pub returns-clause-fails : goal.returns-clause-fails
returns-clause-fails g c = λ items size seat place code s v few small ok. seen-fails (question_of items size g.F.Failing.Fails) s ok few small seat v place code

pub returns-clause-one_code : goal.returns-clause-one_code
returns-clause-one_code g c = λ items size seat other place code found s v w ok. seen-one_code (question_of items size g.F.Failing.Fails) s ok seat other v w place code found

pub returns-clause-one_place : goal.returns-clause-one_place
returns-clause-one_place g c = λ items size seat other place second code s v w ok. seen-one_place (question_of items size g.F.Failing.Fails) s ok seat other v w place second code
