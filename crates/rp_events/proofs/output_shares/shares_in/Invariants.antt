use Rattle.std.proofs.Common.{◌≡◌}
use Rattle.rp_events.proofs.OutputShares.{shares_below}
use Rattle.rp_events.proofs.output_shares.shares_in.Given as goal

abbrev pub invariant-loop-share : goal.invariant-loop-share
invariant-loop-share l = l.vars.items ≡ shares_below l.gadget l.set l.share
