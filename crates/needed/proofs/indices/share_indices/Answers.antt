use Rattle.std.proofs.Common.{sym, ◌∙◌}
use Rattle.needed.proofs.ShareCounts.{ones-shares, bit_at-indices}
use Rattle.needed.proofs.indices.share_indices.Goals as goal

pub returns-clause-count : goal.returns-clause-count
returns-clause-count c = ones-shares c.args.set c.args.input

pub returns-clause-indices : goal.returns-clause-indices
returns-clause-indices c = λ index l.
    let e = bit_at-indices c.args.set c.args.input index l in
    (λ h. sym e ∙ h, λ h. e ∙ h)
