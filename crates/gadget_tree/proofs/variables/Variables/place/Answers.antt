use Rattle.std.proofs.Common.{◌∙◌}
use Rattle.gadget_tree.proofs.Index.{place-found}
use Rattle.gadget_tree.proofs.variables.Variables.place.Goals as goal

pub returns : goal.returns
returns c = c.unwrap_or.ensures ∙ place-found c.args.self.now c.args.name.now c.number.result c.len.result c.number.ensures.among c.number.ensures.place c.len.ensures.len
