use Rattle.std.proofs.Common.{arith}
use Rattle.std.proofs.lemmas.List.Folds.{flat_map-map}
use Rattle.std.proofs.lemmas.Grind.{common_steps}
use Rattle.rp_events.specs.Events.{mode_digit}
use Rattle.rp_events.specs.Choices.{given_of}
use Rattle.rp_events.proofs.names.extend_event_word.Goals as goal

pub returns-in_ok-extend_from_slice-in-Rpe-2 : goal.returns-in_ok-extend_from_slice-in-Rpe-2
returns-in_ok-extend_from_slice-in-Rpe-2 c =
    let e = flat_map-map mode_digit given_of c.args.given.now in
    grind (arith, common_steps)
