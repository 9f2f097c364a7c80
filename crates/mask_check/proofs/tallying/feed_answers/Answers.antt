use Rattle.std.proofs.Common.{◌≡◌, ◌+◌, List, map, take, sym}
use Rattle.mask_check.specs.Decisions.{answer_of}
use Rattle.mask_check.specs.Tallying.{printed, state_of}
use Rattle.mask_check.proofs.Feeding.{fed_nothing, fed_more, parts_more}
use Rattle.mask_check.proofs.tallying.feed_answers.Goals as goal

pub loop-event-init : goal.loop-event-init
loop-event-init g c =
    let tally = goal.Tally-dyn g in
    fed_nothing (map (λ b. state_of ((tally (b.vtable, b.value)).kind b.value) ((tally (b.vtable, b.value)).counts b.value)) c.args.tallies.now.items)

pub loop-event-preserved : goal.loop-event-preserved
loop-event-preserved g c =
    let i = c.loop-event.event in
    let answers = c.args.answers.now in
    fed_more _ _ _ (printed (map answer_of (take i answers))) _ (printed (map answer_of (take (i + 1) answers)))
    (parts_more (λ answer. answer.failing) answer_of answers i c.index-answers-event.result c.loop-event-test.true
    c.index-answers-event.is)
    c.loop-event.invariant (rw (sym c.live.ensures) c.feed_answer.ensures)
