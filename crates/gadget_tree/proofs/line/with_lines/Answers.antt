use Rattle.std.proofs.Common.{List, ◌++◌, length, sym, subst}
use Rattle.std.specs.Prelude.{All, Ok, Err}
use Rattle.std.proofs.Math.Seq.{drop-append_seam}
use Rattle.std.proofs.lemmas.List.Elements.{All-drop}
use Rattle.std.proofs.lemmas.Result.{err_from_is_err_and}
use Rattle.gadget_text.specs.declared.token.Token.{Token}
use Rattle.gadget_text.specs.Places.{LiesWithin, line_of, lines_in}
use Rattle.gadget_tree.proofs.LineAnswers.{lines-next, lines-refused, lines-end}
use Rattle.gadget_tree.proofs.line.with_lines.Goals as goal

pub returns-in_err-now : goal.returns-in_err-now
returns-in_err-now c =
    let p = err_from_is_err_and c.from_residual.result c.from_residual.ensures.1 in
    rw (p.1, p.2) (λ other.
    c.loop-line.invariant.says (Err c.in_err-now.field-0.0)
    (lines-refused c.loop-line.now (line_of c.args.bytes.now c.in-Some.line) (lines_in c.args.bytes.now c.loop-line.rest.now) (lines_in c.args.bytes.now c.in-Some.line.rest.now) c.in_err-now.field-0.0
    (c.in-Some.ensures.line c.args.bytes.now) (c.in_err-now.ensures other)))

pub loop-line-preserved : goal.loop-line-preserved
loop-line-preserved c = record {
  within = subst (λ (ts : List Token). All (LiesWithin (length c.args.bytes.now)) ts) (drop-append_seam c.in-Some.line.tokens.now c.in-Some.line.rest.now)
      (All-drop (LiesWithin (length c.args.bytes.now)) (length c.in-Some.line.tokens.now) (c.in-Some.line.tokens.now ++ c.in-Some.line.rest.now)
      (subst (λ (ts : List Token). All (LiesWithin (length c.args.bytes.now)) ts) (sym c.in-Some.ensures.parts) c.loop-line.invariant.within));
  says = λ r h. c.loop-line.invariant.says r
      (lines-next c.loop-line.now c.in_ok-now.now (line_of c.args.bytes.now c.in-Some.line) (lines_in c.args.bytes.now c.loop-line.rest.now)
      (lines_in c.args.bytes.now c.in-Some.line.rest.now) r (c.in-Some.ensures.line c.args.bytes.now) c.in_ok-now.ensures h);
}

pub returns : goal.returns
returns c = c.loop-line.invariant.says (Ok c.loop-line.now) (lines-end c.args.bytes.now c.loop-line.now c.loop-line.rest.now c.in_default.ensures.none)
