use Rattle.std.proofs.Common.{codes, ap, ◌∙◌, ℕ, arith}
use Rattle.gadget_maker.specs.Texts.{paired}
use Rattle.gadget_maker.proofs.Lines.{sum_more}
use Rattle.gadget_maker.proofs.maker.add_product_sum.Goals as goal

pub loop-k-preserved : goal.loop-k-preserved
loop-k-preserved c =
    let less = c.loop-k-test.true in
    sum_more c.args.n (codes "c") (paired (codes "r")) c.args.i c.loop-k.k (omega (arith, less)) c.loop-k.text.items _ _ _ _ _ c.sum_name-next.ensures
    (c.paired.ensures ∙ ap (λ (j : ℕ). (paired (codes "r")) c.args.i j) c.other_than.ensures) c.loop-k.invariant c.in_ok-add_operation.ensures
