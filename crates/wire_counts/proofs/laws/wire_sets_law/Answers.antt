use Rattle.wire_counts.proofs.WireSets.{wire_sets-all, wire_sets-once, items-members, IsTuple-from_IsWireSet}
use Rattle.wire_counts.proofs.laws.wire_sets_law.Goals as goal

pub returns-clause-all : goal.returns-clause-all
returns-clause-all c = wire_sets-all

pub returns-clause-once : goal.returns-clause-once
returns-clause-once c = wire_sets-once

pub returns-clause-items : goal.returns-clause-items
returns-clause-items c = items-members

pub returns-clause-tuple : goal.returns-clause-tuple
returns-clause-tuple c = IsTuple-from_IsWireSet
