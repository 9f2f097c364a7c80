use Rattle.gadget_text.proofs.Slices.{file_texts}
use Rattle.gadget_text.proofs.Spans.{file_rises}
use Rattle.gadget_text.proofs.laws.slices_law.Goals as goal

pub returns-clause-texts : goal.returns-clause-texts
returns-clause-texts c = file_texts

pub returns-clause-spans : goal.returns-clause-spans
returns-clause-spans c = file_rises
