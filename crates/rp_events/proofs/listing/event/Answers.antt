use Rattle.std.proofs.Common.{List, ℕ, map, ap, ◌∙◌}
use Rattle.rp_events.specs.Events.{selections, set_from}
use Rattle.rp_events.proofs.MeantSets.{all_meant, all_indices, same_event}
use Rattle.rp_events.proofs.listing.event.Goals as goal

pub output_sets-requires-clause-choices : goal.output_sets-requires-clause-choices
output_sets-requires-clause-choices c = all_indices c.args.gadget.now.shares c.args.given.now c.requires.choices

pub returns : goal.returns
returns c =
    same_event c.in_ok-event_name.field-0 _ c.in_ok-output_sets.field-0.items _ c.args.which c.in_ok-event_name.ensures
    (c.in_ok-output_sets.ensures
    ∙ ap (λ (lists : List (List (List ℕ))). map (set_from 0) (selections lists)) (all_meant c.args.gadget.now.shares c.args.given.now c.requires.choices))
