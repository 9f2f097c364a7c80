use Rattle.std.proofs.Common.{◌≡◌, map, take}
use Rattle.std.specs.List.{All}
use Rattle.gadget_model.specs.Polynomials.{unions}
use Rattle.anf.specs.Polynomials.{set_of}
use Rattle.anf.specs.Monomials.{sets_of}
use Rattle.anf.specs.Keys.{HaveKey}
use Rattle.anf.proofs.arithmetic.all_unions.Given as goal

abbrev pub invariant-loop-monomial : goal.invariant-loop-monomial
invariant-loop-monomial l = record {
  keys : All HaveKey l.keys.items;
  unions : map set_of l.keys.items ≡ unions (sets_of (take l.monomial-index l.a)) (sets_of l.b);
}
