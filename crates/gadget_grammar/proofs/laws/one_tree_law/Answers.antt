use Rattle.gadget_grammar.proofs.Readings.{one_expression, one_assignment}
use Rattle.gadget_grammar.proofs.laws.one_tree_law.Goals as goal

pub returns-clause-expression : goal.returns-clause-expression
returns-clause-expression c = one_expression

pub returns-clause-assignment : goal.returns-clause-assignment
returns-clause-assignment c = one_assignment
