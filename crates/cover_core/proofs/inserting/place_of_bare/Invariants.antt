use Rattle.std.proofs.Common.{ℕ}
use Rattle.cover_core.specs.Effects.{put_bare}
use Rattle.cover_core.proofs.Standing.{PassesOn}
use Rattle.cover_core.proofs.inserting.place_of_bare.Given as goal

abbrev pub invariant-loop-i : goal.invariant-loop-i
invariant-loop-i l = (move : ℕ) → PassesOn (put_bare l.x move) l.i l.items
