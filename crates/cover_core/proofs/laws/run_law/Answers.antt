use Rattle.cover_core.specs.Core.{question_of}
use Rattle.cover_core.specs.Machine.{opening}
use Rattle.cover_core.proofs.Ends.{opening_ok}
use Rattle.cover_core.proofs.Runs.{run-keeps}
use Rattle.cover_core.proofs.laws.run_law.Goals as goal

pub returns-clause-kept : goal.returns-clause-kept
returns-clause-kept g c = λ items size steps. run-keeps (question_of items size g.F.Failing.Fails) steps

pub returns-clause-reached : goal.returns-clause-reached
returns-clause-reached g c = λ items size width steps end.
    let a = question_of items size g.F.Failing.Fails in run-keeps a steps (opening width) end (opening_ok a width)
