use Rattle.gadget_tree.proofs.FileValues.{headers_have, lines_have}
use Rattle.gadget_tree.proofs.laws.value_law.Goals as goal

pub returns-clause-shares_and_randoms : goal.returns-clause-shares_and_randoms
returns-clause-shares_and_randoms c = headers_have

pub returns-clause-lines : goal.returns-clause-lines
returns-clause-lines c = lines_have
