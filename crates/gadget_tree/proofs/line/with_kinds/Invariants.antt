use Rattle.std.proofs.Common.{◌≡◌, ◌+◌, ◌++◌, drop, length, map}
use Rattle.gadget_tree.specs.Made.{names_made}
use Rattle.gadget_tree.specs.Operations.{made_variables}
use Rattle.gadget_tree.specs.Seen.{node_of}
use Rattle.gadget_tree.specs.Variables.{names_of}
use Rattle.gadget_tree.proofs.NewNames.{AreNew}
use Rattle.gadget_tree.proofs.line.with_kinds.Given as goal

abbrev pub invariant-loop-k : goal.invariant-loop-k
invariant-loop-k l = record {
  makes : l.now ++ made_variables l.line (drop l.k (names_made l.name (length l.kinds))) (map node_of (drop l.k l.kinds))
      ≡ l.fn.variables ++ made_variables l.line (names_made l.name (length l.kinds)) (map node_of l.kinds);
  fresh : AreNew (names_of l.now) (drop l.k (names_made l.name (length l.kinds)));
  longer : length l.now ≡ length l.fn.variables + l.k;
}
