use Rattle.std.proofs.Common.{◌≡◌, length, map, take}
use Rattle.gadget_model.specs.Circuit.{Circuit}
use Rattle.wire_table.specs.Tables.{StandsFor}
use Rattle.needed.specs.TestedItems.{variables_at}
use Rattle.rp_events.specs.Inside.{AllExceed}
use Rattle.rp_events.proofs.exceeds.all_exceed.Given as goal

abbrev pub invariant-loop-others : goal.invariant-loop-others
invariant-loop-others l = record {
  scratch : l.scratch ≡ l.initial.scratch;
  all : (g : Circuit) → StandsFor l.initial.scratch.table g → length g.inputs ≡ l.inputs →
      AllExceed g l.t l.which (variables_at l.initial.scratch.observed l.tuple) (map (λ others. others.items) (take l.others-index l.lists));
}
