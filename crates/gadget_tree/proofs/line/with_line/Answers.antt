use Rattle.std.proofs.Common.{sym, ap, ◌∙◌}
use Rattle.std.proofs.lemmas.Result.{err_from_is_err_and}
use Rattle.gadget_text.specs.Errors.{Is, MemoryAside}
use Rattle.gadget_text.specs.Places.{line_of}
use Rattle.gadget_text.proofs.Gives.{gives_weaker, aside_weaker}
use Rattle.gadget_headers.specs.Headers.{header_of}
use Rattle.gadget_grammar.specs.Seen.{steps_in, assignment_in}
use Rattle.gadget_tree.specs.File.{LineSays}
use Rattle.gadget_tree.specs.Made.{with_steps}
use Rattle.gadget_tree.proofs.LineAnswers.{refused-says, steps-tree, assigned-says}
use Rattle.gadget_tree.proofs.line.with_line.Goals as goal

pub returns-in_err-says : goal.returns-in_err-says
returns-in_err-says c =
    let p = err_from_is_err_and c.from_residual.result c.from_residual.ensures.1 in
    let line = line_of c.args.bytes.now c.args.line.now in
    rw (p.1, p.2) (λ other. refused-says c.args.variables line (header_of line.lexemes) c.in_err-says.field-0.0 (sym (c.is_header.ensures c.args.bytes.now) ∙ c.if-is_header.false)
    (c.in_err-says.ensures.says other))

pub with_steps-requires-clause-tree : goal.with_steps-requires-clause-tree
with_steps-requires-clause-tree c =
    let tree = steps-tree (line_of c.args.bytes.now c.args.line.now) (assignment_in c.args.bytes.now c.in_ok-says.says) c.in_ok-says.ensures.says in
    (tree.0, ap (steps_in c.args.bytes.now) c.deref.ensures.value ∙ tree.1)

pub returns : goal.returns
returns c =
    let earlier = c.args.variables in
    let line = line_of c.args.bytes.now c.args.line.now in
    let name = c.text-name.result.now in
    let steps = steps_in c.args.bytes.now c.deref.result.now in
    let said = Is (with_steps line.number earlier name steps) in
    gives_weaker (λ v. v) c.with_steps.result (MemoryAside said) (MemoryAside (LineSays earlier line))
    (aside_weaker said (LineSays earlier line) (assigned-says earlier line (header_of line.lexemes) (assignment_in c.args.bytes.now c.in_ok-says.says) name steps
    (sym (c.is_header.ensures c.args.bytes.now) ∙ c.if-is_header.false) c.in_ok-says.ensures.says c.text-name.ensures (ap (steps_in c.args.bytes.now) c.deref.ensures.value))) c.with_steps.ensures
