use Rattle.std.proofs.Common.{◌∙◌, ◌+◌, ◌++◌, List, ap, drop}
use Rattle.gadget_text.specs.declared.token.Token.{Token}
use Rattle.gadget_text.specs.Segments.{segments}
use Rattle.gadget_text.specs.Places.{placed}
use Rattle.gadget_text.proofs.Runs.{word_added}
use Rattle.gadget_text.proofs.file.add_segment.Goals as goal

pub returns-then-len-gt0-clause-tokens : goal.returns-then-len-gt0-clause-tokens
returns-then-len-gt0-clause-tokens c =
    ap (λ (z : List Token). z ++ placed c.args.line (c.args.at + c.word_len-len.result) (segments c.args.words (drop c.word_len-len.result c.args.bytes.now))) c.in_ok-push.ensures.items
    ∙ word_added c.args.words c.args.line c.args.at c.word_len-len.result c.args.bytes.now c.args.tokens.now.items c.word_len-len.ensures.len c.if-len-gt0.true
