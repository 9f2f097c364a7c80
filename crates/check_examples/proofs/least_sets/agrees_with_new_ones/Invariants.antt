use Rattle.std.proofs.Common.{◌≡◌, ◌≤◌, length}
use Rattle.check_examples.proofs.least_sets.agrees_with_new_ones.Given as goal

-- the elimination and the scratch stay those of the table
abbrev pub invariant-loop : goal.invariant-loop
invariant-loop l = record {
  elimination : l.elimination.table ≡ l.table;
  scratch : l.scratch ≡ length l.table.products;
  places : length l.vars ≡ 7;
  held : l.held ≤ 7;
}
