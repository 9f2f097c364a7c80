use Rattle.demo_laws.proofs.DemoFiles.{isw_file, refresh_file}
use Rattle.demo_laws.proofs.demo_law.Goals as goal

pub returns-clause-isw : goal.returns-clause-isw
returns-clause-isw c = isw_file

pub returns-clause-refresh : goal.returns-clause-refresh
returns-clause-refresh c = refresh_file
