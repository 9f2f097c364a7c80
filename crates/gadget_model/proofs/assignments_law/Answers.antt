use Rattle.gadget_model.proofs.AllAssignments.{Contains-assignments_exactly, once-assignments}
use Rattle.gadget_model.proofs.assignments_law.Goals as goal

pub returns-clause-members : goal.returns-clause-members
returns-clause-members c = Contains-assignments_exactly

pub returns-clause-once : goal.returns-clause-once
returns-clause-once c = once-assignments
