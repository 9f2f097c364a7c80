use Rattle.cover_core.specs.Core.{question_of}
use Rattle.cover_core.specs.Machine.{opening}
use Rattle.cover_core.proofs.Ends.{opening_ok}
use Rattle.cover_core.proofs.Runs.{run-keeps}
use Rattle.cover_core.proofs.Law.{quiet-least}
use Rattle.cover_core.proofs.Answer.{answer-quiet, quiet-answer}
use Rattle.cover_core.proofs.laws.quiet_law.Goals as goal

pub returns-clause-least : goal.returns-clause-least
returns-clause-least g c = λ items size s few small. quiet-least (question_of items size g.F.Failing.Fails) s few small

pub returns-clause-answer : goal.returns-clause-answer
returns-clause-answer g c = λ items size s few small ok quiet list. quiet-answer (question_of items size g.F.Failing.Fails) s few small ok quiet list

pub returns-clause-listed : goal.returns-clause-listed
returns-clause-listed g c = λ items size s few small ok quiet list. answer-quiet (question_of items size g.F.Failing.Fails) s few small ok quiet list

pub returns-clause-reached : goal.returns-clause-reached
returns-clause-reached g c = λ items size width steps end few small run quiet.
    let a = question_of items size g.F.Failing.Fails in
    quiet-least a end few small (run-keeps a steps (opening width) end (opening_ok a width) run) quiet
