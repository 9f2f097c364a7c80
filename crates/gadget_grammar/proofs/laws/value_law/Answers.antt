use Rattle.gadget_grammar.proofs.Values.{stack_after_steps-postfix}
use Rattle.gadget_grammar.proofs.laws.value_law.Goals as goal

pub returns : goal.returns
returns g c = stack_after_steps-postfix _
