use Rattle.std.proofs.Common.{◌≡◌, ◌+◌, drop}
use Rattle.rp_events.specs.Choices.{shares_at}
use Rattle.rp_events.proofs.output_sets.shares_at.Given as goal

abbrev pub invariant-loop-index : goal.invariant-loop-index
invariant-loop-index l = l.shares + shares_at l.output (drop l.index-index l.indices) ≡ shares_at l.output l.indices
