use Rattle.std.proofs.Common.{◌≡◌, ℕ, suc, ◌-◌, ap, ◌∙◌, arith, subst}
use Rattle.tuple_order.proofs.Ranking.{Leads, Leads-with, Leads-without, Leads-same, Leads-tuple, Leads-done, Leads-end}
use Rattle.tuple_order.proofs.ranks.tuple_at.Goals as goal
use Rattle.tuple_order.proofs.ranks.tuple_at.Goals.{then-rest-with_item, else-rest-with_item}

pub returns-then-lacking-eq0 : goal.returns-then-lacking-eq0
returns-then-lacking-eq0 c =
    let P : ℕ → Type 0 = λ n. Leads c.args.items c.args.size c.args.place c.loop-item.t n c.loop-item.rest c.loop-item.item in
    Leads-done c.args.items c.args.size c.args.place c.loop-item.t c.loop-item.rest c.loop-item.item (subst P c.if-lacking-eq0.true c.loop-item.invariant)

pub count_of_size-with_item-requires-clause-size_at_most : goal.count_of_size-with_item-requires-clause-size_at_most
count_of_size-with_item-requires-clause-size_at_most c = omega (arith, c.loop-item.invariant.few)

pub push-requires : goal.push-requires
push-requires c =
    let P : ℕ → Type 0 = λ n. Leads c.args.items c.args.size c.args.place c.loop-item.t n c.loop-item.rest c.loop-item.item in
    let e : c.loop-item.lacking ≡ suc (c.loop-item.lacking - 1) = omega arith in
    Leads-tuple c.args.items c.args.size c.args.place _ _ _ _ c.requires.items_at_most c.requires.size_at_most
    (Leads-with (subst P e c.loop-item.invariant) c.loop-item-test.true (omega (arith, c.if-rest-with_item.true, c.count_of_size-with_item.ensures)))

pub loop-item-preserved : goal.loop-item-preserved
loop-item-preserved c =
    let P : ℕ → Type 0 = λ n. Leads c.args.items c.args.size c.args.place c.loop-item.t n c.loop-item.rest c.loop-item.item in
    let e : c.loop-item.lacking ≡ suc (c.loop-item.lacking - 1) = omega arith in
    let h = subst P e c.loop-item.invariant in
    let n = c.count_of_size-with_item.ensures in
    elim c.if-rest-with_item.branch [
      | then-rest-with_item w ↦
          Leads-same (w.t-is ∙ w.push.ensures) w.lacking-is w.rest-is (Leads-with h c.loop-item-test.true (omega (arith, w.if-rest-with_item.true)))
      | else-rest-with_item w ↦
          Leads-same w.t-is (w.lacking-is ∙ e) (w.rest-is ∙ ap (λ (k : ℕ). c.loop-item.rest - k) n)
          (Leads-without h c.loop-item-test.true (omega (arith, w.if-rest-with_item.false)))
    ]

pub returns : goal.returns
returns c =
    Leads-end c.args.items c.args.size c.args.place c.loop-item.t c.loop-item.lacking c.loop-item.rest c.loop-item.item c.loop-item-test.false c.loop-item.invariant
