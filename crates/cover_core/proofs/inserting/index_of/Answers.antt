use Rattle.std.proofs.Common.{◌≡◌, arith, sym, ◌∙◌, map}
use Rattle.cover_core.specs.Effects.{take_out}
use Rattle.cover_core.proofs.Standing.{passes-remove, passes-next, take_out-same, take_out-later, read_pair, has-later, has-read}
use Rattle.cover_core.proofs.inserting.index_of.Goals as goal

pub returns-then-is_same : goal.returns-then-is_same
returns-then-is_same g c =
    let f = g.P.Pair.pair in
    let here = c.pair.result in
    let same = sym c.is_same.ensures ∙ c.if-is_same.true in
    let r = read_pair f c.args.items.now c.loop-i.i c.index-items-i.result here c.loop-i-test.true c.index-items-i.is c.pair.ensures in
    (c.loop-i-test.true, passes-remove (take_out c.args.x) (map f c.args.items.now) c.loop-i.i here r.0 r.1 (take_out-same c.args.x here _ same) c.loop-i.invariant.passes, has-read c.args.x here _ _ r.0 r.1 same)

pub loop-i-preserved : goal.loop-i-preserved
loop-i-preserved g c =
    let f = g.P.Pair.pair in
    let here = c.pair.result in
    let apart = sym c.is_same.ensures ∙ c.if-is_same.false in
    let r = read_pair f c.args.items.now c.loop-i.i c.index-items-i.result here c.loop-i-test.true c.index-items-i.is c.pair.ensures in
    record {
      passes = passes-next (take_out c.args.x) (map f c.args.items.now) c.loop-i.i here r.0 r.1 (take_out-later c.args.x here _ apart) c.loop-i.invariant.passes;
      absent = λ h. has-later c.args.x here (map f c.args.items.now) c.loop-i.i r.0 r.1 apart (c.loop-i.invariant.absent h);
    }
