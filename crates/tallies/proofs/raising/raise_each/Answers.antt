use Rattle.std.proofs.Common.{◌≡◌, ℕ, ◌+◌, List, [], ◌∷◌, ◌++◌, take, get_or, ap, sym, ◌∙◌}
use Rattle.std.proofs.lemmas.List.{take_more}
use Rattle.tallies.specs.Counting.{raised_at}
use Rattle.tallies.proofs.OneByOne.{none_raised, raised_at-append}
use Rattle.tallies.proofs.raising.raise_each.Goals as goal

pub loop-place-init : goal.loop-place-init
loop-place-init c = none_raised c.args.counts.now

pub loop-place-preserved : goal.loop-place-preserved
loop-place-preserved c =
    let places = c.args.places.now in
    let i = c.loop-place.place-index in
    let x = get_or places i 0 in
    let old = c.args.counts.now in
    let read : c.from.result ≡ x = c.from.ensures in
    let more : take (i + 1) places ≡ take i places ++ x ∷ [] = take_more places i 0 c.loop-place-test.true in
    c.raise.ensures
    ∙ ap (λ (place : ℕ). raised_at (place ∷ []) c.loop-place.counts) read
    ∙ ap (λ (counts : List ℕ). raised_at (x ∷ []) counts) c.loop-place.invariant
    ∙ sym (raised_at-append (take i places) (x ∷ []) old)
    ∙ ap (λ (listed : List ℕ). raised_at listed old) (sym more)
