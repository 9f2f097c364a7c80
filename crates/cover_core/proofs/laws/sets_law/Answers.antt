use Rattle.cover_core.proofs.Sets.{bare-set, number-set, numbers-set, out-set, pair-set, pairs-set}
use Rattle.cover_core.proofs.laws.sets_law.Goals as goal

pub returns-clause-pair : goal.returns-clause-pair
returns-clause-pair c = pair-set

pub returns-clause-pairs : goal.returns-clause-pairs
returns-clause-pairs c = pairs-set

pub returns-clause-number : goal.returns-clause-number
returns-clause-number c = number-set

pub returns-clause-numbers : goal.returns-clause-numbers
returns-clause-numbers c = numbers-set

pub returns-clause-out : goal.returns-clause-out
returns-clause-out c = out-set

pub returns-clause-bare : goal.returns-clause-bare
returns-clause-bare c = bare-set
