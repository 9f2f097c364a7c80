use Rattle.std.proofs.Common.{◌≡◌, ◌∙◌, ◌+◌, List, ℕ, [], ◌∷◌, ◌++◌, map, take, ap, rules}
use Rattle.std.proofs.lemmas.List.{take_more}
use Rattle.std.proofs.lemmas.Option.{get_or_from_slice_get}
use Rattle.mask_check.specs.Tallying.{state_of}
use Rattle.mask_check.proofs.Feeding.{fed_nothing, fed_more}
use Rattle.mask_check.proofs.tallying.feed_answer.Goals as goal

pub loop-place-init : goal.loop-place-init
loop-place-init g c =
    let tally = goal.Tally-dyn g in
    fed_nothing (map (λ b. state_of ((tally (b.vtable, b.value)).kind b.value) ((tally (b.vtable, b.value)).counts b.value)) c.args.tallies.now.items)

pub loop-place-preserved : goal.loop-place-preserved
loop-place-preserved g c =
    let i = c.loop-place.place in
    let failing = c.args.failing.now in
    let t = c.tuple.result in
    let more : take (i + 1) failing ≡ take i failing ++ t ∷ [] =
    take_more failing i t (search rules)
    ∙ ap (λ (next : List ℕ). take i failing ++ next ∷ []) (get_or_from_slice_get failing i t t c.tuple.ensures) in
    fed_more _ _ _ (take i failing) (t ∷ []) (take (i + 1) failing) more c.loop-place.invariant c.feed_each.ensures
