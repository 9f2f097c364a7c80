use Rattle.std.proofs.Common.{◌≡◌, ◌+◌, ◌<◌, ◌≤◌, ◌*◌, ℕ, length, slice_index}
use Rattle.tuple_order.specs.Codes.{code_with}
use Rattle.tuple_order.proofs.encoding.double.Given as goal

abbrev pub invariant-loop-number : goal.invariant-loop-number
invariant-loop-number l = record {
  wide : length l.codes ≡ 64;
  known : (k : ℕ) → k < l.known → slice_index l.codes k ≡ slice_index l.fn.codes k;
  longer : (k : ℕ) → k < l.number → slice_index l.codes (k + l.known) ≡ code_with (slice_index l.fn.codes k) l.item;
  rest : (k : ℕ) → 2 * l.known ≤ k → slice_index l.codes k ≡ slice_index l.fn.codes k;
}
