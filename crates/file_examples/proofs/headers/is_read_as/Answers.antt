use Rattle.std.proofs.Common.{◌∙◌}
use Rattle.gadget_text.proofs.Within.{tokens_within}
use Rattle.file_examples.proofs.headers.is_read_as.Goals as goal

pub read_headers-requires : goal.read_headers-requires
read_headers-requires c = record { within = tokens_within c.args.text.now c.deref.result.now (c.deref.ensures.value ∙ c.in_ok-tokens.ensures.tokens) }
