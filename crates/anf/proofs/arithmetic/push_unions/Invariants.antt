use Rattle.std.proofs.Common.{◌≡◌, ◌++◌, map, take}
use Rattle.std.specs.Prelude.{bit_or}
use Rattle.std.specs.List.{All}
use Rattle.anf.specs.Polynomials.{set_of}
use Rattle.anf.specs.Monomials.{sets_of}
use Rattle.anf.specs.Keys.{HaveKey}
use Rattle.anf.proofs.arithmetic.push_unions.Given as goal

abbrev pub invariant-loop-other : goal.invariant-loop-other
invariant-loop-other l = record {
  keys : All HaveKey l.keys.items;
  unions : map set_of l.keys.items ≡ map set_of l.fn.keys.items ++ map (bit_or (set_of l.monomial)) (sets_of (take l.other-index l.others));
}
