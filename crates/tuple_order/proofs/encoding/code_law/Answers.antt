use Rattle.std.proofs.Common.{arith}
use Rattle.tuple_order.proofs.Codes.{tuple_of_code-code_of, code_of-before, IsBefore-from_code_of, code_of-small, code_of-large}
use Rattle.tuple_order.proofs.encoding.code_law.Goals as goal

pub returns-clause-inverse : goal.returns-clause-inverse
returns-clause-inverse c = tuple_of_code-code_of

pub returns-clause-ordered : goal.returns-clause-ordered
returns-clause-ordered c = λ s t g h. (code_of-before s t g h, IsBefore-from_code_of s t g h)

pub returns-clause-not_zero : goal.returns-clause-not_zero
returns-clause-not_zero c = λ t. let l = code_of-large t in omega arith

pub returns-clause-small : goal.returns-clause-small
returns-clause-small c = code_of-small
