use Rattle.std.proofs.Common.{codes, ap, ◌∙◌, ℕ, arith}
use Rattle.gadget_maker.specs.Texts.{random_of}
use Rattle.gadget_maker.proofs.Lines.{sum_more}
use Rattle.gadget_maker.proofs.maker.add_share_sum.Goals as goal

pub loop-k-preserved : goal.loop-k-preserved
loop-k-preserved c =
    let less = c.loop-k-test.true in
    sum_more c.args.n (codes "d") random_of c.args.i c.loop-k.k (omega (arith, less)) c.loop-k.text.items _ _ _ _ _ c.sum_name-next.ensures
    (c.random_of.ensures ∙ ap (λ (j : ℕ). random_of c.args.i j) c.other_than.ensures) c.loop-k.invariant c.in_ok-add_operation.ensures
