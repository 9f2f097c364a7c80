use Rattle.std.proofs.Common.{◌≡◌, ◌*◌, ◌≤◌, take}
use Rattle.wire_table.specs.UseCounts.{uses_among}
use Rattle.wire_table.proofs.use_counts.uses_among.Given as goal

abbrev pub invariant-loop-var : goal.invariant-loop-var
invariant-loop-var l = record {
  count : l.uses ≡ uses_among (take l.var-index l.vars) l.v;
  few : l.uses ≤ 2 * l.var-index;
}
