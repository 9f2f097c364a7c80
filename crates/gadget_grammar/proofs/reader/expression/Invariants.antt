use Rattle.std.proofs.Common.{◌≡◌, ◌++◌, drop}
use Rattle.gadget_grammar.specs.Machine.{steps_from, initial_state}
use Rattle.gadget_grammar.specs.Seen.{name_tokens, word_tokens, state_in, symbols_in}
use Rattle.gadget_grammar.proofs.reader.expression.Given as goal

abbrev pub invariant-loop-token : goal.invariant-loop-token
invariant-loop-token l = record {
  steps : steps_from (state_in l.bytes l.reader) (symbols_in l.bytes (drop l.token-index l.tokens)) ≡ steps_from initial_state (symbols_in l.bytes l.tokens);
  names : name_tokens l.reader.steps.items ++ word_tokens (drop l.token-index l.tokens) ≡ word_tokens l.tokens;
}
