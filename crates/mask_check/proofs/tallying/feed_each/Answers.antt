use Rattle.std.proofs.Common.{◌≡◌, ◌≤◌, ◌<◌, [], ◌∷◌, map, length, get_or, ap, subst, ◌∙◌, rules}
use Rattle.mask_check.specs.Tallying.{state_of}
use Rattle.mask_check.proofs.Feeding.{fed_up_to-more, fed_up_to-all}
use Rattle.mask_check.proofs.tallying.feed_each.Goals as goal

pub loop-tally-init : goal.loop-tally-init
loop-tally-init g c =
    let tally = goal.Tally-dyn g in
    ap (map (λ b. state_of ((tally (b.vtable, b.value)).kind b.value) ((tally (b.vtable, b.value)).counts b.value))) c.deref_mut-tally-items.ensures.value

pub loop-tally-preserved : goal.loop-tally-preserved
loop-tally-preserved g c =
    let tally = goal.Tally-dyn g in
    let i = c.loop-tally.tally-index in
    let old = c.args.tallies.now.items in
    let x = get_or c.loop-tally.tally-items i c.tally-item.result in
    let whole : length c.deref_mut-tally-items.result.now ≡ length old = ap length c.deref_mut-tally-items.ensures.value in
    fed_up_to-more (λ b. state_of ((tally (b.vtable, b.value)).kind b.value) ((tally (b.vtable, b.value)).counts b.value))
    (c.args.t.now ∷ []) c.loop-tally.tally-items old i x _
    (subst (λ n. i < n) whole c.loop-tally-test.true) (c.loop-tally.auto.tally-items ∙ whole) (ap (get_or c.loop-tally.tally-items i) c.tally-item.is)
    c.feed_tally.ensures
    c.loop-tally.invariant

pub returns : goal.returns
returns g c =
    let tally = goal.Tally-dyn g in
    let i = c.loop-tally.tally-index in
    let old = c.args.tallies.now.items in
    let whole : length c.deref_mut-tally-items.result.now ≡ length old = ap length c.deref_mut-tally-items.ensures.value in
    let sized : c.args.tallies.now.len ≡ length old = search rules in
    fed_up_to-all (λ b. state_of ((tally (b.vtable, b.value)).kind b.value) ((tally (b.vtable, b.value)).counts b.value))
    (c.args.t.now ∷ []) c.loop-tally.tally-items old i c.args.tallies.now.len
    (subst (λ n. n ≤ i) whole c.loop-tally-test.false) (c.loop-tally.auto.tally-items ∙ whole) sized c.loop-tally.invariant
