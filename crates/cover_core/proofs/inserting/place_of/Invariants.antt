use Rattle.std.proofs.Common.{map}
use Rattle.cover_core.specs.Effects.{put_pair}
use Rattle.cover_core.proofs.Standing.{PassesOn}
use Rattle.cover_core.proofs.inserting.place_of.Given as goal

abbrev pub invariant-loop-i : goal.invariant-loop-i
invariant-loop-i g l = PassesOn (put_pair l.x) l.i (map g.P.Pair.pair l.items)
