use Rattle.cover_core.specs.Core.{question_of}
use Rattle.cover_core.proofs.Ends.{opening_ok}
use Rattle.cover_core.proofs.laws.opening_law.Goals as goal

pub returns : goal.returns
returns g c = λ items size width. opening_ok (question_of items size g.F.Failing.Fails) width
