use Rattle.std.proofs.Common.{◌+◌, ◌/◌, List, ℕ, ◌++◌, drop, ap, ◌∙◌}
use Rattle.tuple_model.specs.Tuples.{subset as subset_of}
use Rattle.tuple_model.proofs.Subsets.{IsTuple-subset}
use Rattle.tuple_order.proofs.Keeping.{kept_odd, kept_even, IsTuple-kept}
use Rattle.tuple_order.proofs.tuples.subset.Goals as goal
use Rattle.tuple_order.proofs.tuples.subset.Goals.{then-bits-eq1, else-bits-eq1}

pub push-requires : goal.push-requires
push-requires c =
    IsTuple-kept 511 6 c.loop-item.kept c.items-item-items.result.now (subset_of c.args.k c.args.t.now) c.loop-item.bits c.loop-item.item-index
    (IsTuple-subset 511 6 c.args.k c.args.t.now c.items-item-items.ensures.tuple) c.loop-item-test.true c.if-bits-eq1.true c.loop-item.invariant

pub loop-item-preserved : goal.loop-item-preserved
loop-item-preserved c =
    let t = c.items-item-items.result.now in
    let i = c.loop-item.item-index in
    let bits = c.loop-item.bits in
    let rest : List ℕ = subset_of (bits / 2) (drop (i + 1) t) in
    elim c.if-bits-eq1.branch [
      | then-bits-eq1 w ↦ ap (λ (kept : List ℕ). kept ++ rest) (w.kept-is ∙ w.push.ensures)
          ∙ kept_odd c.loop-item.kept t bits i c.loop-item-test.true w.if-bits-eq1.true ∙ c.loop-item.invariant
      | else-bits-eq1 w ↦ ap (λ (kept : List ℕ). kept ++ rest) w.kept-is
          ∙ kept_even c.loop-item.kept t bits i c.loop-item-test.true w.if-bits-eq1.false ∙ c.loop-item.invariant
    ]
