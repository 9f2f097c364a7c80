use Rattle.std.proofs.Common.{◌≡◌, map, take}
use Rattle.tallies.specs.Counting.{fed}
use Rattle.mask_check.specs.Tallying.{state_of}
use Rattle.mask_check.proofs.tallying.feed_answer.Given as goal

abbrev pub invariant-loop-place : goal.invariant-loop-place
invariant-loop-place g l =
    let tally = goal.Tally-dyn g in
    map (λ b. state_of ((tally (b.vtable, b.value)).kind b.value) ((tally (b.vtable, b.value)).counts b.value)) l.tallies.items
    ≡ map (λ state. fed state (take l.place l.failing))
    (map (λ b. state_of ((tally (b.vtable, b.value)).kind b.value) ((tally (b.vtable, b.value)).counts b.value)) l.fn.tallies.items)
