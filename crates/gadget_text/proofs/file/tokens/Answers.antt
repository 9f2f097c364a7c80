use Rattle.std.proofs.Common.{◌≡◌, ◌<◌, ◌+◌, ◌++◌, ℕ, List, map, length, drop, ap, ◌∙◌, refl, arith}
use Rattle.std.proofs.lemmas.List.{length-drop}
use Rattle.std.proofs.lemmas.Result.{err_from_is_err_and}
use Rattle.gadget_text.specs.declared.token.Token.{Token}
use Rattle.gadget_text.specs.Lines.{lines_of, pieces_of, without_return, first_not_text}
use Rattle.gadget_text.specs.Places.{placed_lines, tokens_of}
use Rattle.gadget_text.proofs.Files.{tokens_on, tokens_end, text_on, text_end, named_on}
use Rattle.gadget_text.proofs.file.tokens.Goals as goal

pub lines-init : goal.lines-init
unfolding tokens_of
lines-init c = record {
  tokens = ap (λ (z : List Token). z ++ placed_lines 1 0 (pieces_of c.args.bytes.now)) c.new-tokens.ensures.items;
  text = refl;
  number = omega arith;
  room = omega arith;
}

pub returns-in_err-add_line-clause-not_text : goal.returns-in_err-add_line-clause-not_text
returns-in_err-add_line-clause-not_text c =
    let p = err_from_is_err_and c.from_residual.result c.from_residual.ensures.1 in
    rw (p.1, p.2) (named_on c.lines.number c.line_len-len.result c.lines.rest.now c.without_return.result.now c.in_err-add_line.field-0.0 (first_not_text 1 (lines_of c.args.bytes.now)) c.line_len-len.ensures.len c.line_len-len.ensures.within c.without_return.ensures.line c.in_err-add_line.ensures.not_text c.lines.invariant.text)

pub returns-then-len-rest-clause-tokens : goal.returns-then-len-rest-clause-tokens
returns-then-len-rest-clause-tokens c =
    tokens_end c.lines.number c.lines.at c.line_len-len.result c.lines.rest.now c.without_return.result.now c.lines.tokens.items c.add_line.new.tokens.items (tokens_of c.args.bytes.now) c.line_len-len.ensures.len c.if-len-rest.true c.without_return.ensures.line c.in_ok-add_line.ensures.tokens c.lines.invariant.tokens

pub returns-then-len-rest-clause-text : goal.returns-then-len-rest-clause-text
returns-then-len-rest-clause-text c =
    text_end c.lines.number c.line_len-len.result c.lines.rest.now c.without_return.result.now (first_not_text 1 (lines_of c.args.bytes.now)) c.line_len-len.ensures.len c.if-len-rest.true c.without_return.ensures.line c.in_ok-add_line.ensures.text c.lines.invariant.text

pub lines-preserved : goal.lines-preserved
lines-preserved c =
    let below : c.line_len-len.result < length c.lines.rest.now = omega (arith, c.line_len-len.ensures.within, c.if-len-rest.false) in
    record {
      tokens = ap (λ (z : List ℕ). c.add_line.new.tokens.items ++ placed_lines (c.lines.number + 1) (c.lines.at + (c.line_len-len.result + 1)) (pieces_of z)) c.behind_line-rest.ensures
          ∙ tokens_on c.lines.number c.lines.at c.line_len-len.result c.lines.rest.now c.without_return.result.now c.lines.tokens.items c.add_line.new.tokens.items (tokens_of c.args.bytes.now) c.line_len-len.ensures.len below c.without_return.ensures.line c.in_ok-add_line.ensures.tokens c.lines.invariant.tokens;
      text = ap (λ (z : List ℕ). first_not_text (c.lines.number + 1) (map without_return (pieces_of z))) c.behind_line-rest.ensures
          ∙ text_on c.lines.number c.line_len-len.result c.lines.rest.now c.without_return.result.now (first_not_text 1 (lines_of c.args.bytes.now)) c.line_len-len.ensures.len below c.without_return.ensures.line c.in_ok-add_line.ensures.text c.lines.invariant.text;
      number = omega (arith, c.lines.invariant.number);
      room = let rest : length c.behind_line-rest.result.now ≡ length (drop (c.line_len-len.result + 1) c.lines.rest.now) = ap length c.behind_line-rest.ensures in
          omega (arith, rest, length-drop (c.line_len-len.result + 1) c.lines.rest.now, below, c.lines.invariant.room);
    }
