use Rattle.std.proofs.Common.{ℕ, List, [], ◌∷◌, ◌++◌, get_or, sym, arith, subst}
use Rattle.tuple_model.specs.Tuples.{IsTuple}
use Rattle.tuple_order.proofs.Making.{next_item-rises, IsTuple-more}
use Rattle.tuple_order.proofs.tuples.Tuple.from_items.Goals as goal
use Rattle.tuple_order.proofs.tuples.Tuple.from_items.Goals.{then-item-low-via-then-item-low, then-item-low-via-else-item-low+then-item-ge-MOST_ITEMS}

pub returns-then-item-low-clause-none : goal.returns-then-item-low-clause-none
returns-then-item-low-clause-none c = λ h.
    let r = next_item-rises c.args.items.now c.loop-item.item-index c.loop-item-test.true h in
    elim c.then-item-low.branch [
      | then-item-low-via-then-item-low w ↦ omega (arith, w.if-item-low.true, c.loop-item.invariant.low)
      | then-item-low-via-else-item-low+then-item-ge-MOST_ITEMS w ↦ omega (arith, w.if-item-ge-MOST_ITEMS.true)
    ]

pub push-requires : goal.push-requires
push-requires c =
    let i = c.loop-item.item-index in
    let x = get_or c.args.items.now i 0 in
    let P : List ℕ → Type 0 = λ t. IsTuple 511 6 (t ++ x ∷ []) in
    subst P (sym c.loop-item.invariant.made)
    (IsTuple-more c.args.items.now i x c.loop-item-test.true (omega arith) c.loop-item.invariant.tuple (omega (arith, c.loop-item.invariant.low)) (omega arith))
