use Rattle.std.proofs.Common.{map, drop}
use Rattle.cover_core.specs.Core.{Has}
use Rattle.cover_core.specs.Effects.{take_out}
use Rattle.cover_core.proofs.Standing.{PassesOn}
use Rattle.cover_core.proofs.inserting.index_of.Given as goal

abbrev pub invariant-loop-i : goal.invariant-loop-i
invariant-loop-i g l = record {
  passes : PassesOn (take_out l.x) l.i (map g.P.Pair.pair l.items);
  absent : Has l.x (map g.P.Pair.pair l.items) → Has l.x (drop l.i (map g.P.Pair.pair l.items));
}
