use Rattle.simulation_law.proofs.Elimination.{IsSimulatableFrom-linear}
use Rattle.simulation_law.proofs.elimination_law.Goals as goal

pub returns : goal.returns
returns c = IsSimulatableFrom-linear
