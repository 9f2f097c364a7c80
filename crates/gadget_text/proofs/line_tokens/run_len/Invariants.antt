use Rattle.std.proofs.Common.{◌≡◌, ◌+◌, eqb, drop}
use Rattle.std.specs.List.{prefix_len}
use Rattle.gadget_text.proofs.line_tokens.run_len.Given as goal

abbrev pub invariant-loop-i : goal.invariant-loop-i
invariant-loop-i l = l.i + prefix_len (λ u. eqb u.line l.line) (drop l.i l.tokens) ≡ prefix_len (λ u. eqb u.line l.line) l.tokens
