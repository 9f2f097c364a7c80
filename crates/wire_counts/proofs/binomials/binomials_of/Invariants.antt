use Rattle.std.proofs.Common.{◌≡◌, ◌++◌, drop, map}
use Rattle.wire_table.specs.CodeItems.{item_of}
use Rattle.wire_counts.specs.Coefficients.{weights_of}
use Rattle.wire_counts.proofs.binomials.binomials_of.Given as goal

abbrev pub invariant-loop-item : goal.invariant-loop-item
invariant-loop-item l = l.binomials.items ++ weights_of (map item_of (drop l.item-index l.items)) ≡ weights_of (map item_of l.items)
