use Rattle.std.proofs.Common.{◌+◌, ◌∷◌, codes, arith}
use Rattle.gadget_maker.specs.Texts.{paired}
use Rattle.gadget_maker.proofs.Pushes.{flat_map-push}
use Rattle.gadget_maker.proofs.maker.add_random_row.Goals as goal

pub loop-j-preserved : goal.loop-j-preserved
loop-j-preserved c =
    flat_map-push (λ j. 32 ∷ paired (codes "r") c.args.i j) c.args.text.now.items c.loop-j.text.items _ (c.args.i + 1) c.loop-j.j
    (let a = c.loop-j.auto in omega (arith, a.j)) c.loop-j.invariant c.in_ok-add_random.ensures
