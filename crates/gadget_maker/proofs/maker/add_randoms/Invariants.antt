use Rattle.std.proofs.Common.{◌≡◌, ◌++◌, ◌-◌, flat_map}
use Rattle.std.specs.List.{range_with_len}
use Rattle.gadget_maker.specs.Rows.{random_row}
use Rattle.gadget_maker.proofs.maker.add_randoms.Given as goal

abbrev pub invariant-loop-i : goal.invariant-loop-i
invariant-loop-i l = l.text.items ≡ l.initial.text.items ++ flat_map (random_row l.n) (range_with_len 0 (l.i - 0))
