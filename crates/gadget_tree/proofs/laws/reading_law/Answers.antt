use Rattle.gadget_tree.proofs.OneReading.{one_reading}
use Rattle.gadget_tree.proofs.SomeReading.{some_reading}
use Rattle.gadget_tree.proofs.Offences.{no_memory}
use Rattle.gadget_tree.proofs.MadeGadgets.{said_gadget}
use Rattle.gadget_tree.proofs.laws.reading_law.Goals as goal

pub returns-clause-one : goal.returns-clause-one
returns-clause-one c = one_reading

pub returns-clause-some : goal.returns-clause-some
returns-clause-some c = some_reading

pub returns-clause-offence : goal.returns-clause-offence
returns-clause-offence c = no_memory

pub returns-clause-gadget : goal.returns-clause-gadget
returns-clause-gadget c = said_gadget
