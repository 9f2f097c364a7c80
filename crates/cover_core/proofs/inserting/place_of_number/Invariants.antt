use Rattle.cover_core.specs.Effects.{put_number}
use Rattle.cover_core.proofs.Standing.{PassesOn}
use Rattle.cover_core.proofs.inserting.place_of_number.Given as goal

abbrev pub invariant-loop-i : goal.invariant-loop-i
invariant-loop-i l = PassesOn (put_number l.x) l.i l.items
