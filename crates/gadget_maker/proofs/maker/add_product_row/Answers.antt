use Rattle.std.proofs.Common.{◌++◌, ◌∷◌, [], arith}
use Rattle.gadget_maker.specs.Texts.{product_of_pair}
use Rattle.gadget_maker.proofs.Pushes.{flat_map-push}
use Rattle.gadget_maker.proofs.Lines.{product_is}
use Rattle.gadget_maker.proofs.maker.add_product_row.Goals as goal

pub loop-j-preserved : goal.loop-j-preserved
loop-j-preserved c =
    flat_map-push (λ j. product_of_pair (c.args.i, j) ++ 10 ∷ []) c.args.text.now.items c.loop-j.text.items _ 0 c.loop-j.j (omega arith) c.loop-j.invariant
    (product_is c.args.i c.loop-j.j _ _ _ c.loop-j.text.items _ c.paired.ensures c.indexed.ensures c.indexed-in-loop-j.ensures c.in_ok-add_operation.ensures)
