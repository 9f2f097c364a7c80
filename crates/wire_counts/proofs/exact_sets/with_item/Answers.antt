use Rattle.std.proofs.Common.{◌-◌, arith}
use Rattle.wire_counts.proofs.Walks.{convolution-as_before}
use Rattle.wire_counts.proofs.exact_sets.with_item.Goals as goal

pub convolved-requires-clause-fits : goal.convolved-requires-clause-fits
convolved-requires-clause-fits c =
    let e = convolution-as_before c.args.binomials.now c.args.room c.args.sets.now c.loop-more.sets (c.loop-more.more - 1) c.loop-more.more (omega arith) c.loop-more.invariant.lower in
    let f = c.requires.fits (c.loop-more.more - 1) (omega arith) in
    omega arith
