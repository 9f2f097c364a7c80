use Rattle.notions.proofs.IndexBits.{no_indices, more_indices}
use Rattle.notions.proofs.grants.indices.Goals as goal

pub loop-input-init : goal.loop-input-init
loop-input-init c = λ index l. no_indices c.args.set index

pub loop-input-preserved : goal.loop-input-preserved
loop-input-preserved c = λ index l.
    more_indices c.loop-input.indices c.share_indices-indices.result c.loop-input.input c.args.set index (c.loop-input.invariant index l)
    (c.share_indices-indices.ensures.indices index l)
