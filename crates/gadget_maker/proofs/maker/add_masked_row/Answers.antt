use Rattle.std.proofs.Common.{◌+◌, arith}
use Rattle.gadget_maker.specs.Texts.{masked_products, text_of}
use Rattle.gadget_maker.proofs.Pushes.{flat_map-push}
use Rattle.gadget_maker.proofs.Lines.{masked_is}
use Rattle.gadget_maker.proofs.maker.add_masked_row.Goals as goal

pub loop-j-preserved : goal.loop-j-preserved
loop-j-preserved c =
    flat_map-push (λ j. text_of (masked_products (c.args.i, j))) c.args.text.now.items c.loop-j.text.items _ (c.args.i + 1) c.loop-j.j
    (let a = c.loop-j.auto in omega (arith, a.j)) c.loop-j.invariant
    (masked_is c.args.i c.loop-j.j _ _ _ _ _ c.loop-j.text.items _ _ c.paired-masked.ensures c.paired.ensures c.paired-in-loop-j.ensures
    c.paired-in-loop-j-2.ensures c.paired-in-loop-j-3.ensures c.in_ok-add_operation.ensures c.in_ok-add_operation-2.ensures)
