use Rattle.std.proofs.Common.{codes, arith}
use Rattle.gadget_maker.proofs.Pushes.{flat_map-push}
use Rattle.gadget_maker.proofs.Lines.{product_sum, headers_added, all_rows, isw_done}
use Rattle.gadget_maker.proofs.maker.isw.Goals as goal

pub loop-i-preserved : goal.loop-i-preserved
loop-i-preserved c =
    flat_map-push (product_sum c.args.n) c.add_masked_products.new.text.items c.loop-i.text.items _ 0 c.loop-i.i (omega arith) c.loop-i.invariant c.in_ok-add_product_sum.ensures

pub returns : goal.returns
returns c =
    let end = c.loop-i-test.false in
    let within = c.loop-i.auto in
    isw_done c.args.n c.requires.some c.requires.few _ _ _ _ (headers_added c.args.n (codes " a b") 99 _ _ c.new-text.ensures.items c.in_ok-add_headers.ensures)
    c.in_ok-add_products.ensures c.in_ok-add_masked_products.ensures
    (all_rows (product_sum c.args.n) c.args.n c.loop-i.i _ _ (λ less. absurd (omega (arith, end))) (omega (arith, within.i-end)) c.loop-i.invariant)
