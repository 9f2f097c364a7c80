use Rattle.std.proofs.Common.{◌≡◌, ℕ, ◌+◌, ◌*◌, ◌^◌, arith, ap}
use Rattle.rp_events.proofs.ShareSums.{fits_next, FitsNext, shares_at-below}
use Rattle.rp_events.proofs.output_sets.shares_at.Goals as goal

fits : (c : goal.After-from) → FitsNext c.args.output c.from.result c.loop-index.shares c.loop-index.index-index c.args.indices.now
fits c =
    fits_next c.args.output c.from.result c.loop-index.shares c.loop-index.index-index c.args.indices.now
    c.requires.output (omega arith) c.requires.indices c.from.ensures c.loop-index.invariant

pub overflow_shl-shares : goal.overflow_shl-shares
overflow_shl-shares c = (fits c).shift

pub overflow_add-shares-in-loop-index : goal.overflow_add-shares-in-loop-index
overflow_add-shares-in-loop-index c = let f = (fits c).sum in omega arith

pub loop-index-preserved : goal.loop-index-preserved
loop-index-preserved c = (fits c).next

pub returns-clause-below : goal.returns-clause-below
returns-clause-below c =
    let o = c.args.output in
    let b = shares_at-below o 16 c.args.indices.now c.requires.indices (omega arith) in
    let e : 16 * o + 16 ≡ 16 * (o + 1) = omega arith in
    let p = ap (λ (n : ℕ). 2 ^ n) e in
    let i = c.loop-index.invariant in
    omega arith
