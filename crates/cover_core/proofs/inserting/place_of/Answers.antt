use Rattle.std.proofs.Common.{◌≡◌, arith, sym, ◌∙◌, map}
use Rattle.cover_core.specs.Effects.{put_pair}
use Rattle.cover_core.proofs.Standing.{passes-same, passes-insert, passes-next, put_pair-same, put_pair-first, put_pair-later, read_pair}
use Rattle.cover_core.proofs.inserting.place_of.Goals as goal

pub returns-then-is_same : goal.returns-then-is_same
returns-then-is_same g c =
    let f = g.P.Pair.pair in
    let here = c.pair-here.result in
    let r = read_pair f c.args.items.now c.loop-i.i c.index-items-i.result here c.loop-i-test.true c.index-items-i.is c.pair-here.ensures in
    passes-same (put_pair c.args.x) (map f c.args.items.now) c.loop-i.i here r.0 r.1 (put_pair-same c.args.x here _ (sym c.is_same.ensures ∙ c.if-is_same.true)) c.loop-i.invariant

pub returns-then-comes_first : goal.returns-then-comes_first
returns-then-comes_first g c =
    let f = g.P.Pair.pair in
    let here = c.pair-here.result in
    let r = read_pair f c.args.items.now c.loop-i.i c.index-items-i.result here c.loop-i-test.true c.index-items-i.is c.pair-here.ensures in
    (c.loop-i.auto.i-end, passes-insert (put_pair c.args.x) (map f c.args.items.now) c.loop-i.i c.args.x here r.0 r.1 (put_pair-first c.args.x here _ (sym c.is_same.ensures ∙ c.if-is_same.false) (sym c.comes_first.ensures ∙ c.if-comes_first.true)) c.loop-i.invariant)

pub loop-i-preserved : goal.loop-i-preserved
loop-i-preserved g c =
    let f = g.P.Pair.pair in
    let here = c.pair-here.result in
    let r = read_pair f c.args.items.now c.loop-i.i c.index-items-i.result here c.loop-i-test.true c.index-items-i.is c.pair-here.ensures in
    passes-next (put_pair c.args.x) (map f c.args.items.now) c.loop-i.i here r.0 r.1 (put_pair-later c.args.x here _ (sym c.is_same.ensures ∙ c.if-is_same.false) (sym c.comes_first.ensures ∙ c.if-comes_first.false)) c.loop-i.invariant
