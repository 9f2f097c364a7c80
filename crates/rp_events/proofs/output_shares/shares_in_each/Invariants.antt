use Rattle.std.proofs.Common.{◌≡◌, map, take}
use Rattle.rp_events.specs.Failing.{shares_in}
use Rattle.rp_events.proofs.output_shares.shares_in_each.Given as goal

abbrev pub invariant-loop-set : goal.invariant-loop-set
invariant-loop-set l = map (λ vars. vars.items) l.lists.items ≡ map (shares_in l.gadget) (take l.set-index l.sets)
