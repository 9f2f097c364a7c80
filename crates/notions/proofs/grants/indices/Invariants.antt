use Rattle.std.proofs.Common.{ℕ, ◌↔◌, ◌<◌}
use Rattle.gadget_limits.specs.Limits.{most_shares}
use Rattle.gadget_model.specs.Simulation.{HasShare}
use Rattle.notions.specs.Inside.{HasShareIndex}
use Rattle.notions.proofs.grants.indices.Given as goal

abbrev pub invariant-loop-input : goal.invariant-loop-input
invariant-loop-input l = (index : ℕ) → index < most_shares → HasShare l.indices index ↔ HasShareIndex l.input l.set index
