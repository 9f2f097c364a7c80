use Rattle.std.proofs.Common.{◌≡◌, ◌≤◌, ℕ, List, drop}
use Rattle.gadget_grammar.specs.Nesting.{is_too_deep}
use Rattle.gadget_grammar.specs.Seen.{symbols_in}
use Rattle.gadget_grammar.proofs.nesting.is_too_deep.Given as goal

abbrev pub invariant-loop-token : goal.invariant-loop-token
invariant-loop-token l = record {
  rest : (bytes : List ℕ) → is_too_deep l.opened l.closed (symbols_in bytes (drop l.token-index l.tokens)) ≡ is_too_deep 0 0 (symbols_in bytes l.tokens);
  opened : l.opened ≤ l.token-index;
  closed : l.closed ≤ l.token-index;
}
