use Rattle.std.proofs.Common.{ℕ, ◌+◌, map, replicate, ap, sym, ◌∙◌, subst}
use Rattle.tuple_model.specs.Antichains.{Covers}
use Rattle.wire_table.specs.CodeItems.{item_of}
use Rattle.wire_counts.specs.Coefficients.{AreCoefficients, weights_of}
use Rattle.wire_counts.proofs.Deciding.{coefficients-empty}
use Rattle.wire_counts.proofs.counting.coefficients.Goals as goal

pub returns-then-is_empty : goal.returns-then-is_empty
returns-then-is_empty g c =
    let list = c.args.list.now in
    let weights = weights_of (map item_of c.args.items.now) in
    let zeros = c.in_ok-vec.ensures.items_if_clones_equal (λ y h. h) ∙ ap (λ (n : ℕ). replicate (n + 1) 0) c.from.ensures in
    let empty = c.is_empty.ensures.0 c.if-is_empty.true in
    subst (AreCoefficients (Covers list) weights c.args.size) (sym zeros) (coefficients-empty list weights c.args.size empty)
