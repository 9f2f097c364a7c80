use Rattle.gadget_text.proofs.LineRuns.{first_line_of}
use Rattle.gadget_text.proofs.line_tokens.first_line.Goals as goal

pub returns-clause-line : goal.returns-clause-line
returns-clause-line c bytes =
    first_line_of bytes c.args.tokens.now c.split_at.result.tokens.now c.split_at.result.rest.now c.split_at.result.line c.run_len-len.result _ c.if-is_empty.ensures
    c.split_at.ensures.line c.run_len-len.ensures.len c.split_at.ensures.tokens c.split_at.ensures.rest
