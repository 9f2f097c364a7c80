use Rattle.tuple_model.proofs.Rising.{IsTuple-from_member, member-from_IsTuple, tuples-ordered}
use Rattle.tuple_model.proofs.tuples_law.Goals as goal

pub returns-clause-members : goal.returns-clause-members
returns-clause-members c = λ items size t. (IsTuple-from_member items size t, member-from_IsTuple items size t)

pub returns-clause-ordered : goal.returns-clause-ordered
returns-clause-ordered c = tuples-ordered
