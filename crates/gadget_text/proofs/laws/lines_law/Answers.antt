use Rattle.gadget_text.proofs.LineRuns.{file_runs, first_run}
use Rattle.gadget_text.proofs.laws.lines_law.Goals as goal

pub returns-clause-lines : goal.returns-clause-lines
returns-clause-lines c = file_runs

pub returns-clause-first : goal.returns-clause-first
returns-clause-first c = first_run
