use Rattle.std.proofs.Common.{List, ◌∷◌, length, drop, sym, ap, ◌∙◌}
use Rattle.std.proofs.lemmas.Result.{err_from_is_err_and}
use Rattle.gadget_text.specs.declared.token.Token.{Token}
use Rattle.gadget_text.specs.Places.{line_of, lexemes_in, text_in}
use Rattle.gadget_grammar.specs.Machine.{steps_from, initial_state}
use Rattle.gadget_grammar.specs.Seen.{symbols_in, steps_in}
use Rattle.gadget_grammar.proofs.Lines.{says_deep, says_unnamed, says_unread, says_assigned, read_at, assigned, symbols_behind, few_steps}
use Rattle.gadget_grammar.proofs.Words.{steps_within}
use Rattle.gadget_grammar.proofs.line.assignment.Goals as goal

pub returns-then-is_too_deep-clause-says : goal.returns-then-is_too_deep-clause-says
returns-then-is_too_deep-clause-says c = λ other.
    says_deep (line_of c.args.bytes.now c.args.line.now) (sym (c.is_too_deep.ensures c.args.bytes.now) ∙ c.if-is_too_deep.true)

pub returns-in_default-clause-says : goal.returns-in_default-clause-says
returns-in_default-clause-says c = λ other.
    says_unnamed (line_of c.args.bytes.now c.args.line.now) (sym (c.is_too_deep.ensures c.args.bytes.now) ∙ c.if-is_too_deep.false) (sym c.in_default.ensures.name)

pub returns-in_err-steps-clause-says : goal.returns-in_err-steps-clause-says
returns-in_err-steps-clause-says c =
    let p = err_from_is_err_and c.from_residual.result c.from_residual.ensures.1 in
    let bytes = c.args.bytes.now in
    let tokens = c.args.line.now.tokens.now in
    rw (p.1, p.2) (λ other. says_unread (line_of bytes c.args.line.now) (sym (c.is_too_deep.ensures bytes) ∙ c.if-is_too_deep.false)
    (steps_from initial_state (symbols_in bytes (drop 2 tokens))) c.in_err-steps.field-0.0 (ap (steps_from initial_state) (sym (symbols_behind bytes tokens))) (c.in_err-steps.ensures.steps other))

pub returns-clause-says : goal.returns-clause-says
returns-clause-says c =
    let bytes = c.args.bytes.now in
    let tokens = c.args.line.now.tokens.now in
    says_assigned (line_of bytes c.args.line.now) (sym (c.is_too_deep.ensures bytes) ∙ c.if-is_too_deep.false)
    (text_in bytes c.in-Some.name) (steps_in bytes c.in_ok-steps.steps.items) (sym c.in-Some.ensures.name)
    (read_at bytes tokens c.args.line.now.line (steps_in bytes c.in_ok-steps.steps.items) c.in_ok-steps.ensures.steps)

pub returns-clause-few_steps : goal.returns-clause-few_steps
returns-clause-few_steps c =
    let bytes = c.args.bytes.now in
    let tokens = c.args.line.now.tokens.now in
    let w = text_in bytes c.in-Some.name in
    let steps = steps_in bytes c.in_ok-steps.steps.items in
    let said = assigned (lexemes_in bytes tokens) w steps (sym c.in-Some.ensures.name) (read_at bytes tokens c.args.line.now.line steps c.in_ok-steps.ensures.steps) in
    few_steps bytes tokens w c.in_ok-steps.steps.items said.0 said.1 said.2

pub returns-clause-steps_within : goal.returns-clause-steps_within
returns-clause-steps_within c =
    steps_within (length c.args.bytes.now) c.args.line.now.tokens.now c.in-Some.name c.in_ok-steps.steps.items c.requires
    (c.in-Some.ensures.word ∙ ap (λ (ts : List Token). c.in-Some.name ∷ ts) (sym c.in_ok-steps.ensures.names))
