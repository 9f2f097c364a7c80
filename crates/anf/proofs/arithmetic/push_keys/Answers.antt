use Rattle.std.proofs.Common.{arith, sym, subst}
use Rattle.std.specs.List.{All}
use Rattle.std.proofs.lemmas.Grind.{common_steps}
use Rattle.std.proofs.lemmas.List.Elements.{All-push}
use Rattle.anf.specs.Keys.{HaveKey}
use Rattle.anf.proofs.arithmetic.push_keys.Goals as goal

pub loop-monomial-preserved : goal.loop-monomial-preserved
loop-monomial-preserved c = record {
  keys = subst (All HaveKey) (sym c.in_ok-push.ensures.items) (All-push HaveKey _ _ c.loop-monomial.invariant.keys c.make.ensures.key);
  sets = grind (arith, common_steps);
}
