use Rattle.gadget_text.proofs.Within.{tokens_within}
use Rattle.gadget_tree.proofs.Saying.{text_read}
use Rattle.gadget_tree.proofs.file.file_tokens.Goals as goal

pub returns-clause-says : goal.returns-clause-says
returns-clause-says c = text_read c.args.bytes.now c.in_ok-tokens.field-0.items c.in_ok-tokens.ensures.tokens c.in_ok-tokens.ensures.text

pub returns-clause-within : goal.returns-clause-within
returns-clause-within c = tokens_within c.args.bytes.now c.in_ok-tokens.field-0.items c.in_ok-tokens.ensures.tokens
