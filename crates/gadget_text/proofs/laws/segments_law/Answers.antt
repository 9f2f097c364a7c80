use Rattle.gadget_text.proofs.Sides.{line_joined}
use Rattle.gadget_text.proofs.laws.segments_law.Goals as goal

pub returns : goal.returns
returns c = line_joined
