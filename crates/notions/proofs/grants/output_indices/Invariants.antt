use Rattle.std.proofs.Common.{ℕ, ◌↔◌, map, take}
use Rattle.gadget_model.specs.Simulation.{HasShare}
use Rattle.wire_table.specs.CodeItems.{item_of}
use Rattle.notions.specs.Notions.{HasOutput}
use Rattle.notions.proofs.grants.output_indices.Given as goal

abbrev pub invariant-loop-item : goal.invariant-loop-item
invariant-loop-item l = (index : ℕ) → HasShare l.indices index ↔ HasOutput (map item_of l.list) (take l.item-index l.tuple) index
