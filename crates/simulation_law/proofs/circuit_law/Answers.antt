use Rattle.simulation_law.proofs.Elimination.{IsSimulatable-additive}
use Rattle.simulation_law.proofs.circuit_law.Goals as goal

pub returns : goal.returns
returns c = IsSimulatable-additive
