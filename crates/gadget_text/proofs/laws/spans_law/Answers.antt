use Rattle.gadget_text.proofs.Within.{file_within}
use Rattle.gadget_text.proofs.laws.spans_law.Goals as goal

pub returns : goal.returns
returns c = file_within
