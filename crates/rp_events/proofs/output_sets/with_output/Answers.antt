use Rattle.std.proofs.Common.{ℕ, ◌+◌, ◌*◌, ◌^◌, ◌<◌, List, sym, subst, take}
use Rattle.std.specs.List.{All}
use Rattle.std.proofs.lemmas.List.Elements.{All-take}
use Rattle.rp_events.specs.Choices.{indices_meant}
use Rattle.rp_events.proofs.ShareSums.{all_joined_below}
use Rattle.rp_events.proofs.output_sets.with_output.Goals as goal

pub returns-clause-below : goal.returns-clause-below
returns-clause-below c =
    let o = c.args.output in
    let below = All-take (λ set. set < 2 ^ (16 * o)) c.loop-set.set-index c.args.sets.now c.requires.below in
    subst (λ (xs : List ℕ). All (λ set. set < 2 ^ (16 * (o + 1))) xs) (sym c.loop-set.invariant)
    (all_joined_below o (take c.loop-set.set-index c.args.sets.now) (indices_meant c.args.choice) below c.requires.choice)
