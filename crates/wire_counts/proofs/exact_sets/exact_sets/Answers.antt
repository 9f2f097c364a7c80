use Rattle.std.proofs.Common.{◌-◌, ◌∙◌, arith}
use Rattle.wire_counts.proofs.Walks.{exact_sets-item, exact_sets-bounded}
use Rattle.wire_counts.proofs.exact_sets.exact_sets.Goals as goal

pub with_item-requires-clause-fits : goal.with_item-requires-clause-fits
with_item-requires-clause-fits c = λ more l.
    let e = exact_sets-item c.args.binomials.now c.args.t.now c.items-items.result.now c.loop-place.sets c.args.room c.loop-place.place c.from.result
    c.index-binomials-from.result c.requires.tuple c.items-items.ensures.items (omega arith) (omega arith) c.from.ensures c.index-binomials-from.is c.loop-place.invariant more l in
    let b = exact_sets-bounded c.args.binomials.now c.args.t.now (c.loop-place.place - 1) more c.requires.items_at_most c.requires.weights_at_most c.requires.tuple
    (let r = c.requires.room in omega arith) in
    omega arith

pub loop-place-preserved : goal.loop-place-preserved
loop-place-preserved c = λ more l.
    c.with_item.ensures more l
    ∙ exact_sets-item c.args.binomials.now c.args.t.now c.items-items.result.now c.loop-place.sets c.args.room c.loop-place.place c.from.result
    c.index-binomials-from.result c.requires.tuple c.items-items.ensures.items (omega arith) (omega arith) c.from.ensures c.index-binomials-from.is c.loop-place.invariant more l
