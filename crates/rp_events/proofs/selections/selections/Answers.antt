use Rattle.std.proofs.Common.{refl, arith}
use Rattle.rp_events.proofs.LongerSelections.{one_start, select_start, select_next, select_end}
use Rattle.rp_events.proofs.selections.selections.Goals as goal

pub loop-list-init : goal.loop-list-init
loop-list-init g c =
    select_start (λ list. list.now) c.args.lists.now _
    (one_start c.new-found.result.items c.push.new.self.items c.new.result c.new-found.ensures.items c.new.ensures.items c.in_ok-push.ensures.items)

pub loop-list-preserved : goal.loop-list-preserved
loop-list-preserved g c =
    select_next (λ list. list.now) c.args.lists.now c.loop-list.list-index c.list-item.result c.loop-list.found.items c.deref.result.now c.list-item.result.now _ _
    (omega arith) c.list-item.is c.deref.ensures.value refl c.in_ok-found.ensures c.loop-list.invariant

pub returns : goal.returns
returns g c = select_end (λ list. list.now) c.args.lists.now c.loop-list.list-index _ _ (omega arith) c.loop-list.invariant
