use Rattle.std.proofs.Common.{sym, subst}
use Rattle.tuple_model.specs.Limits.{most_items, most_size}
use Rattle.tuple_model.specs.Tuples.{IsTuple}
use Rattle.tuple_order.proofs.Doubling.{Known-none, Known-short, Known-doubled}
use Rattle.tuple_order.proofs.tuples.Tuple.subset_codes.Goals as goal

pub loop-item-init : goal.loop-item-init
loop-item-init c = Known-none c.items-item-items.result.now

pub double-requires-clause-short : goal.double-requires-clause-short
double-requires-clause-short c =
    let tuple = subst (IsTuple most_items most_size) (sym c.items-item-items.ensures.items) c.items-item-items.ensures.tuple in
    Known-short c.loop-item.invariant tuple c.loop-item-test.true

pub loop-item-preserved : goal.loop-item-preserved
loop-item-preserved c =
    let tuple = subst (IsTuple most_items most_size) (sym c.items-item-items.ensures.items) c.items-item-items.ensures.tuple in
    Known-doubled c.loop-item.invariant tuple c.loop-item-test.true c.double.new.codes c.type_inv.codes c.double.ensures.known c.double.ensures.longer c.double.ensures.rest
