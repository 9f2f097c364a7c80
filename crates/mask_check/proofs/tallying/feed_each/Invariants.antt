use Rattle.std.proofs.Common.{◌≡◌, [], ◌∷◌, map}
use Rattle.mask_check.specs.Tallying.{state_of}
use Rattle.mask_check.proofs.Feeding.{fed_up_to}
use Rattle.mask_check.proofs.tallying.feed_each.Given as goal

abbrev pub invariant-loop-tally : goal.invariant-loop-tally
invariant-loop-tally g l =
    let tally = goal.Tally-dyn g in
    map (λ b. state_of ((tally (b.vtable, b.value)).kind b.value) ((tally (b.vtable, b.value)).counts b.value)) l.tally-items
    ≡ fed_up_to l.tally-index (l.t ∷ [])
    (map (λ b. state_of ((tally (b.vtable, b.value)).kind b.value) ((tally (b.vtable, b.value)).counts b.value)) l.fn.tallies.items)
