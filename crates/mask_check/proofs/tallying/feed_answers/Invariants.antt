use Rattle.std.proofs.Common.{◌≡◌, map, take}
use Rattle.tallies.specs.Counting.{fed}
use Rattle.mask_check.specs.Decisions.{answer_of}
use Rattle.mask_check.specs.Tallying.{printed, state_of}
use Rattle.mask_check.proofs.tallying.feed_answers.Given as goal

abbrev pub invariant-loop-event : goal.invariant-loop-event
invariant-loop-event g l =
    let tally = goal.Tally-dyn g in
    map (λ b. state_of ((tally (b.vtable, b.value)).kind b.value) ((tally (b.vtable, b.value)).counts b.value)) l.tallies.items
    ≡ map (λ state. fed state (printed (map answer_of (take l.event l.answers))))
    (map (λ b. state_of ((tally (b.vtable, b.value)).kind b.value) ((tally (b.vtable, b.value)).counts b.value)) l.fn.tallies.items)
