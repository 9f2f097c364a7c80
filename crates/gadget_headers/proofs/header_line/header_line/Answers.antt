use Rattle.gadget_text.specs.declared.token.Header.TheVariants.{Profile}
use Rattle.gadget_text.specs.declared.token.TokenKind.TheVariants.{Head}
use Rattle.gadget_text.specs.Places.{lines_in}
use Rattle.gadget_headers.proofs.HeaderLines.{line_goes_on, line_split}
use Rattle.gadget_headers.proofs.header_line.header_line.Goals as goal

pub returns-clause-goes_on : goal.returns-clause-goes_on
returns-clause-goes_on c bytes h =
    line_goes_on bytes h c.in_ok-line.line.line c.in_ok-line.line.tokens.now c.behind_first.result.now c.in_ok-line.line.rest.now (lines_in bytes c.args.tokens.now) c.in-Head.header (record { kind = Head Profile; from = 0; to = 0; line = 0 })
    (c.in_ok-line.ensures.line bytes) c.in_ok-line.ensures.some c.in-Head.is c.behind_first.ensures

pub returns-clause-parts : goal.returns-clause-parts
returns-clause-parts c =
    line_split c.in_ok-line.line.tokens.now c.behind_first.result.now c.in_ok-line.line.rest.now c.args.tokens.now c.in_ok-line.ensures.some c.behind_first.ensures c.in_ok-line.ensures.parts
