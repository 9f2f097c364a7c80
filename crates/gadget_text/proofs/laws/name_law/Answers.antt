use Rattle.gadget_text.proofs.NameParts.{names_by_parts}
use Rattle.gadget_text.proofs.laws.name_law.Goals as goal

pub returns : goal.returns
returns c = names_by_parts
