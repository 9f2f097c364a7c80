use Rattle.std.proofs.Common.{arith, sym, subst}
use Rattle.std.specs.List.{All}
use Rattle.std.proofs.lemmas.Grind.{common_steps}
use Rattle.std.proofs.lemmas.List.Elements.{All-push}
use Rattle.anf.specs.Keys.{HaveKey}
use Rattle.anf.proofs.arithmetic.push_unions.Goals as goal

pub loop-other-preserved : goal.loop-other-preserved
loop-other-preserved c = record {
  keys = subst (All HaveKey) (sym c.in_ok-push.ensures.items) (All-push HaveKey _ _ c.loop-other.invariant.keys c.union.ensures.key);
  unions = grind (arith, common_steps);
}
