use Rattle.std.proofs.Common.{◌≡◌, ◌≤◌, ◌-◌, length, take}
use Rattle.needed.proofs.held_items.common_prefix.Given as goal

abbrev pub invariant-loop-common : goal.invariant-loop-common
invariant-loop-common l = record {
  held : l.common ≤ length l.held;
  asked : l.common ≤ length l.asked;
  common : take l.common l.held ≡ take l.common l.asked;
}

abbrev pub decreases-loop-common : goal.decreases-loop-common
decreases-loop-common l = length l.held - l.common
