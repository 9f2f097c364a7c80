use Rattle.std.proofs.Common.{◌≡◌, take}
use Rattle.tallies.specs.Counting.{raised_at}
use Rattle.tallies.proofs.raising.raise_each.Given as goal

abbrev pub invariant-loop-place : goal.invariant-loop-place
invariant-loop-place l = l.counts ≡ raised_at (take l.place-index l.places) l.fn.counts
