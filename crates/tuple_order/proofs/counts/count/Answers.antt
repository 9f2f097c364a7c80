use Rattle.std.proofs.Common.{arith}
use Rattle.tuple_order.proofs.Counting.{count-step}
use Rattle.tuple_order.proofs.counts.count.Goals as goal

pub overflow_add-total : goal.overflow_add-total
overflow_add-total c =
    let s = count-step c.args.items c.loop-smaller.smaller c.requires.items_at_most (omega arith) in
    omega arith

pub loop-smaller-preserved : goal.loop-smaller-preserved
loop-smaller-preserved c =
    let s = count-step c.args.items c.loop-smaller.smaller c.requires.items_at_most (omega arith) in
    omega arith
