use Rattle.std.proofs.Common.{arith}
use Rattle.rp_events.proofs.LongerSelections.{longer_next}
use Rattle.rp_events.proofs.selections.longer.Goals as goal

pub loop-list-preserved : goal.loop-list-preserved
loop-list-preserved g c =
    longer_next c.args.more.now c.args.lists.now c.loop-list.list-index c.list-item.result c.deref.result.now _ _
    (omega arith) c.list-item.is c.deref.ensures.value c.loop-list.invariant c.in_ok-push_longer.ensures
