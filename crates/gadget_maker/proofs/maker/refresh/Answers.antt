use Rattle.std.proofs.Common.{codes, arith}
use Rattle.gadget_maker.proofs.Pushes.{flat_map-push}
use Rattle.gadget_maker.proofs.Lines.{share_sum, headers_added, all_rows, refresh_done}
use Rattle.gadget_maker.proofs.maker.refresh.Goals as goal

pub loop-i-preserved : goal.loop-i-preserved
loop-i-preserved c =
    flat_map-push (share_sum c.args.n) c.add_headers.new.text.items c.loop-i.text.items _ 0 c.loop-i.i (omega arith) c.loop-i.invariant c.in_ok-add_share_sum.ensures

pub returns : goal.returns
returns c =
    let end = c.loop-i-test.false in
    let within = c.loop-i.auto in
    refresh_done c.args.n c.requires.some c.requires.few _ _ (headers_added c.args.n (codes " a") 100 _ _ c.new-text.ensures.items c.in_ok-add_headers.ensures)
    (all_rows (share_sum c.args.n) c.args.n c.loop-i.i _ _ (λ less. absurd (omega (arith, end))) (omega (arith, within.i-end)) c.loop-i.invariant)
