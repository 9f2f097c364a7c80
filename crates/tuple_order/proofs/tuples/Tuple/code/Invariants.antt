use Rattle.std.proofs.Common.{◌≡◌, ◌+◌, drop}
use Rattle.tuple_order.specs.Codes.{code_of, digits}
use Rattle.tuple_order.proofs.tuples.Tuple.code.Given as goal

abbrev pub invariant-loop-item : goal.invariant-loop-item
invariant-loop-item l = l.code + digits l.worth (drop l.item-index l.items) ≡ code_of l.self
