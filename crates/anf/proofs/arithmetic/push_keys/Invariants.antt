use Rattle.std.proofs.Common.{◌≡◌, ◌++◌, map, take}
use Rattle.std.specs.List.{All}
use Rattle.anf.specs.Polynomials.{set_of}
use Rattle.anf.specs.Monomials.{sets_of}
use Rattle.anf.specs.Keys.{HaveKey}
use Rattle.anf.proofs.arithmetic.push_keys.Given as goal

abbrev pub invariant-loop-monomial : goal.invariant-loop-monomial
invariant-loop-monomial l = record {
  keys : All HaveKey l.keys.items;
  sets : map set_of l.keys.items ≡ map set_of l.fn.keys.items ++ sets_of (take l.monomial-index l.monomials);
}
