use Rattle.std.proofs.Common.{◌≡◌, drop}
use Rattle.cover_core.specs.Effects.{put_pairs}
use Rattle.cover_core.proofs.inserting.add_ranges.Given as goal

abbrev pub invariant-loop-place : goal.invariant-loop-place
invariant-loop-place l = l.list ≡ put_pairs (drop l.place l.other) l.fn.list
