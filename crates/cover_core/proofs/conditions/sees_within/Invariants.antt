use Rattle.std.proofs.Common.{ℕ, ◌<◌, ◌^◌, length}
use Rattle.tuple_model.specs.Tuples.{subset}
use Rattle.tuple_order.specs.Codes.{code_of}
use Rattle.cover_core.specs.Effects.{Seen}
use Rattle.cover_core.proofs.conditions.sees_within.Given as goal

abbrev pub invariant-loop-k : goal.invariant-loop-k
invariant-loop-k g l = (k : ℕ) → k < l.k → k < 2 ^ length l.t → Seen (code_of (subset k l.t)) l.view → ⊥
