use Rattle.std.proofs.Common.{◌≡◌, length}
use Rattle.gadget_text.specs.Places.{lines_in}
use Rattle.gadget_headers.specs.Headers.{preamble_of, headers_from}
use Rattle.gadget_headers.specs.Seen.{so_far_in, EndsWith, IsSoFarOf}
use Rattle.gadget_headers.proofs.Parts.{of_parts}
use Rattle.gadget_headers.proofs.headers.read_headers.Given as goal

abbrev pub invariant-loop-line : goal.invariant-loop-line
invariant-loop-line l = record {
  says : headers_from (so_far_in l.bytes (of_parts l.so_far)) (lines_in l.bytes l.rest) ≡ preamble_of (lines_in l.bytes l.tokens);
  so_far : IsSoFarOf l.tokens (of_parts l.so_far);
  rest : EndsWith l.tokens l.rest;
}

abbrev pub decreases-loop-line : goal.decreases-loop-line
decreases-loop-line l = length l.rest
