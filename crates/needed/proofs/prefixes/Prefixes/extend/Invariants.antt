use Rattle.std.proofs.Common.{◌≡◌, ◌+◌, ◌++◌, take}
use Rattle.needed.specs.LeastSets.{HoldsLeastSets}
use Rattle.needed.proofs.prefixes.Prefixes.extend.Given as goal

abbrev pub invariant-loop-var : goal.invariant-loop-var
invariant-loop-var l = record {
  held : HoldsLeastSets l.table l.scratch l.self;
  scratch : l.scratch ≡ l.initial.scratch;
  count : l.self.count ≡ l.initial.self.count + l.var-index;
  vars : take l.self.count l.self.vars ≡ take l.initial.self.count l.initial.self.vars ++ take l.var-index l.vars;
}
