use Rattle.std.proofs.Common.{◌≡◌, ℕ, ◌-◌, arith, refl, sym, ap, ◌∙◌}
use Rattle.tuple_order.proofs.Counting.{ways, length-rising, step-product, step-of_size}
use Rattle.tuple_order.proofs.counts.count_of_size.Goals as goal

pub overflow_mul-of_size : goal.overflow_mul-of_size
overflow_mul-of_size c =
    let b = step-product c.args.items c.loop-chosen.chosen c.loop-chosen.of_size c.from-lacking.result c.loop-chosen.chosen c.requires.items_at_most (omega (arith, c.loop-chosen-test.true, c.requires.size_at_most)) c.loop-chosen.invariant
    (c.from-lacking.ensures ∙ c.saturating_sub.ensures ∙ ap (λ (n : ℕ). c.args.items - n) c.from.ensures) refl in
    omega arith

pub loop-chosen-preserved : goal.loop-chosen-preserved
loop-chosen-preserved c =
    step-of_size c.args.items c.loop-chosen.chosen c.loop-chosen.of_size c.from-lacking.result c.from-in-loop-chosen.result c.requires.items_at_most (omega (arith, c.loop-chosen-test.true, c.requires.size_at_most)) c.loop-chosen.invariant
    (c.from-lacking.ensures ∙ c.saturating_sub.ensures ∙ ap (λ (n : ℕ). c.args.items - n) c.from.ensures) c.from-in-loop-chosen.ensures

pub returns : goal.returns
returns c =
    let e : c.loop-chosen.chosen ≡ c.args.size = omega arith in
    c.loop-chosen.invariant ∙ ap (λ (n : ℕ). ways n c.args.items) e ∙ sym (length-rising c.args.size c.args.items 0)
