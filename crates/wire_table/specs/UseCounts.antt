-- Uses as they are counted.
use Rattle.std.specs.Prelude.{ℕ, ◌==◌, List, count_by, flat_map}
use Rattle.gadget_tree.specs.declared.var.Var.{Var}
use Rattle.gadget_tree.specs.Seen.{node_of}
use Rattle.wire_table.specs.Uses.{operands}

-- how many operand places of some variables name variable v
abbrev pub uses_among : List Var → ℕ → ℕ
uses_among vars v = count_by (λ a. a == v) (flat_map (λ var. operands (node_of var.kind)) vars)
