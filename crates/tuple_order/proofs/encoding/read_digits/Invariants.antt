use Rattle.std.proofs.Common.{◌≡◌, ◌^◌, take}
use Rattle.tuple_order.specs.Codes.{items_of_digits}
use Rattle.tuple_order.proofs.encoding.read_digits.Given as goal

abbrev pub invariant-loop-place : goal.invariant-loop-place
invariant-loop-place l = take l.place l.items ≡ items_of_digits l.place (2 ^ 45) l.code
