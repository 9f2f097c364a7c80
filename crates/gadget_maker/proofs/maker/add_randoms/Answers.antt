use Rattle.std.proofs.Common.{arith}
use Rattle.gadget_maker.specs.Rows.{random_row}
use Rattle.gadget_maker.proofs.Pushes.{flat_map-push}
use Rattle.gadget_maker.proofs.maker.add_randoms.Goals as goal

pub loop-i-preserved : goal.loop-i-preserved
loop-i-preserved c =
    flat_map-push (random_row c.args.n) c.args.text.now.items c.loop-i.text.items _ 0 c.loop-i.i (omega arith) c.loop-i.invariant c.in_ok-add_random_row.ensures
