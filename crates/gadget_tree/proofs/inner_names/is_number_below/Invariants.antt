use Rattle.std.proofs.Common.{◌≡◌, drop}
use Rattle.gadget_tree.specs.Numerals.{continues_below}
use Rattle.gadget_tree.proofs.inner_names.is_number_below.Given as goal

abbrev pub invariant-loop-digit : goal.invariant-loop-digit
invariant-loop-digit l = continues_below l.bound l.number (drop l.digit-index l.digits) ≡ continues_below l.bound 0 l.digits
