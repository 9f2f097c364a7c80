use Rattle.std.proofs.Common.{◌≡◌, ◌++◌, ◌+◌, ◌-◌, flat_map}
use Rattle.std.specs.List.{range_with_len}
use Rattle.gadget_maker.specs.Texts.{text_of, masked_products}
use Rattle.gadget_maker.proofs.maker.add_masked_row.Given as goal

abbrev pub invariant-loop-j : goal.invariant-loop-j
invariant-loop-j l = l.text.items ≡ l.initial.text.items ++ flat_map (λ j. text_of (masked_products (l.i, j))) (range_with_len (l.i + 1) (l.j - (l.i + 1)))
