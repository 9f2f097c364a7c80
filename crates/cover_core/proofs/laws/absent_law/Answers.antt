use Rattle.cover_core.specs.Core.{question_of}
use Rattle.cover_core.proofs.History.{never-after, opened-absent, was-absent}
use Rattle.cover_core.proofs.Moved.{code_of-not_zero}
use Rattle.cover_core.proofs.Showing.{after-shows, opened-fresh}
use Rattle.tuple_order.specs.Codes.{code_of}
use Rattle.cover_core.proofs.laws.absent_law.Goals as goal

pub returns-clause-past : goal.returns-clause-past
returns-clause-past g c = λ items size seat move t steps s end v ok run before at. was-absent (question_of items size g.F.Failing.Fails) steps s end seat v (code_of t) move ok run at (code_of-not_zero t) before

pub returns-clause-opened : goal.returns-clause-opened
returns-clause-opened g c = λ items size width seat move t steps end v run at. opened-absent (question_of items size g.F.Failing.Fails) steps width end seat v (code_of t) move run at (code_of-not_zero t)

pub returns-clause-future : goal.returns-clause-future
returns-clause-future g c = λ items size seat t steps s end v ok run at. never-after (question_of items size g.F.Failing.Fails) steps s end seat v (code_of t) ok run at

pub returns-clause-shown : goal.returns-clause-shown
returns-clause-shown g c = λ items size width seat s kind v w. after-shows (question_of items size g.F.Failing.Fails) s width seat v w kind

pub returns-clause-fresh : goal.returns-clause-fresh
returns-clause-fresh g c = λ items size width seat steps end v. opened-fresh (question_of items size g.F.Failing.Fails) width steps end seat v
