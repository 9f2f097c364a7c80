use Rattle.std.proofs.Common.{◌≡◌, ℕ, arith}
use Rattle.cover_core.proofs.Having.{fits-from}
use Rattle.cover_core.proofs.conditions.fits.Goals as goal

pub returns-then-items-from : goal.returns-then-items-from
returns-then-items-from g c =
    let q = g.Q.Question in
    fits-from (q.items c.args.query.now) (q.size c.args.query.now) _ c.items.result c.items-items.result.now c.args.t.now c.are_below.result c.items-items.ensures.items (omega (arith, c.if-items-from.true, c.from.ensures, c.size.ensures.size)) c.items-items.ensures.tuple.rising c.items.ensures.items c.are_below.ensures
