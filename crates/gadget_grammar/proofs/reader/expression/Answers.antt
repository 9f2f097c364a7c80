use Rattle.std.proofs.Common.{◌≡◌, List, [], ◌++◌, drop, sym, ap, subst, ◌∙◌, arith}
use Rattle.std.proofs.lemmas.Grind.{common_steps}
use Rattle.gadget_text.specs.declared.token.Token.{Token}
use Rattle.gadget_grammar.specs.declared.step.Step.{Step}
use Rattle.gadget_grammar.specs.Machine.{State, steps_from}
use Rattle.gadget_grammar.specs.Seen.{symbols_in, name_tokens, word_tokens, state_in, GivesSteps}
use Rattle.gadget_grammar.proofs.reader.expression.Goals as goal

pub loop-token-init : goal.loop-token-init
loop-token-init c = record {
  steps = ap (λ (s : State). steps_from s (symbols_in c.args.bytes.now c.args.tokens.now)) (c.new-reader.ensures.state c.args.bytes.now);
  names = ap (λ (steps : List Step). name_tokens steps ++ word_tokens c.args.tokens.now) c.new-reader.ensures.empty;
}

pub returns-clause-steps : goal.returns-clause-steps
returns-clause-steps c =
    let bytes = c.args.bytes.now in
    let rest : drop c.loop-token.token-index c.args.tokens.now ≡ [] = grind (arith, common_steps) in
    let state = state_in bytes c.loop-token.reader in
    let ends = sym (ap (λ (ts : List Token). steps_from state (symbols_in bytes ts)) rest) ∙ c.loop-token.invariant.steps in
    subst (GivesSteps c.args.line bytes c.finish.result) ends (c.finish.ensures.steps bytes)
