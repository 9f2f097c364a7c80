use Rattle.std.proofs.Common.{◌∙◌}
use Rattle.gadget_text.proofs.Within.{tokens_within}
use Rattle.file_examples.proofs.assignments.read.Goals as goal

pub assignment-requires : goal.assignment-requires
assignment-requires c = tokens_within c.args.text.now c.deref.result.now (c.deref.ensures.value ∙ c.in_ok-tokens.ensures.tokens)
