use Rattle.std.proofs.Common.{get_or}
use Rattle.cover_core.specs.Effects.{put_bare}
use Rattle.cover_core.proofs.Standing.{passes-set, put_bare-here, get_or-any}
use Rattle.cover_core.proofs.inserting.place_of_bare.Goals as goal

pub returns-then-x-items-2 : goal.returns-then-x-items-2
returns-then-x-items-2 c = (
  c.loop-i-test.true,
  λ move. passes-set (put_bare c.args.x move) c.args.items.now c.loop-i.i (c.args.x, move) (get_or c.args.items.now c.loop-i.i (0, 0)) c.loop-i-test.true (get_or-any c.args.items.now c.loop-i.i (0, 0) _ c.loop-i-test.true) (put_bare-here c.args.x move _ _ c.if-x-items-2.true) (c.loop-i.invariant move),
)
