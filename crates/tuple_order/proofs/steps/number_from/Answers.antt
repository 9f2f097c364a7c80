use Rattle.std.proofs.Common.{arith}
use Rattle.std.proofs.lemmas.Grind.{common_steps}
use Rattle.tuple_order.proofs.Raising.{numbers_from-more}
use Rattle.tuple_order.proofs.steps.number_from.Goals as goal

pub loop-place-preserved : goal.loop-place-preserved
loop-place-preserved c = grind (arith, common_steps, numbers_from-more)
