use Rattle.gadget_grammar.proofs.Advances.{level_ended}
use Rattle.gadget_grammar.proofs.reader.end_level.Goals as goal

pub returns-clause-steps : goal.returns-clause-steps
returns-clause-steps c = level_ended c.args.steps.now.items c.end_product.new.steps.items c.end_sum.new.steps.items c.args.level c.end_sum.result c.in_ok-end_product.ensures.steps c.end_sum.ensures.steps
