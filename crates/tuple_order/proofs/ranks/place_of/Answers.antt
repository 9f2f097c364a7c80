use Rattle.std.proofs.Common.{ℕ, ◌+◌, ◌<◌, length, ap, ◌∙◌, arith}
use Rattle.tuple_order.proofs.Counting.{length-rising-bound}
use Rattle.tuple_order.proofs.Ranking.{Comes-at, Comes-after, Comes-same, Comes-within, Comes-done, Comes-end}
use Rattle.tuple_order.proofs.ranks.place_of.Goals as goal
use Rattle.tuple_order.proofs.ranks.place_of.Goals.{then-t-passed, else-t-passed}

pub returns-then-passed-t : goal.returns-then-passed-t
returns-then-passed-t c =
    Comes-done c.args.items c.args.t.now c.loop-item.passed c.loop-item.before c.loop-item.item (omega arith) c.loop-item.invariant

pub overflow_add-before : goal.overflow_add-before
overflow_add-before c =
    let few = c.loop-item.invariant.passed_few in
    let h = Comes-after c.loop-item.invariant c.loop-item-test.true (omega arith) c.if-t-passed.false in
    let w = Comes-within c.args.items c.args.t.now c.loop-item.passed _ (c.loop-item.item + 1) (omega arith) h in
    let b = length-rising-bound c.args.items (length c.args.t.now) 0 c.requires.items_at_most c.requires.fits.short in
    omega arith

pub loop-item-preserved : goal.loop-item-preserved
loop-item-preserved c =
    let few = c.loop-item.invariant.passed_few in
    let m : c.loop-item.passed < length c.args.t.now = omega arith in
    elim c.if-t-passed.branch [
      | then-t-passed w ↦ Comes-same w.passed-is w.before-is (Comes-at c.loop-item.invariant c.loop-item-test.true m w.if-t-passed.true)
      | else-t-passed w ↦ Comes-same w.passed-is (w.before-is ∙ ap (λ (n : ℕ). c.loop-item.before + n) w.count_of_size-before.ensures) (Comes-after c.loop-item.invariant c.loop-item-test.true m w.if-t-passed.false)
    ]

pub returns : goal.returns
returns c = Comes-end c.args.items c.args.t.now c.loop-item.passed c.loop-item.before c.loop-item.item c.loop-item-test.false c.loop-item.invariant
