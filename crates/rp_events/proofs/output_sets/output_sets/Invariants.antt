use Rattle.std.proofs.Common.{◌≡◌, ◌*◌, ◌^◌, ◌<◌, map, drop}
use Rattle.std.specs.List.{All}
use Rattle.rp_events.specs.Events.{selections, set_from}
use Rattle.rp_events.specs.Choices.{indices_meant}
use Rattle.rp_events.proofs.ShareSums.{sets_from_here}
use Rattle.rp_events.proofs.output_sets.output_sets.Given as goal

abbrev pub invariant-loop-output : goal.invariant-loop-output
invariant-loop-output l = record {
  listed : sets_from_here l.output l.sets.items (drop l.output (map indices_meant l.given)) ≡ map (set_from 0) (selections (map indices_meant l.given));
  below : All (λ set. set < 2 ^ (16 * l.output)) l.sets.items;
}
