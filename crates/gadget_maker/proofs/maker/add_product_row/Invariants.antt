use Rattle.std.proofs.Common.{◌≡◌, ◌++◌, ◌-◌, ◌∷◌, [], flat_map}
use Rattle.std.specs.List.{range_with_len}
use Rattle.gadget_maker.specs.Texts.{product_of_pair}
use Rattle.gadget_maker.proofs.maker.add_product_row.Given as goal

abbrev pub invariant-loop-j : goal.invariant-loop-j
invariant-loop-j l = l.text.items ≡ l.initial.text.items ++ flat_map (λ j. product_of_pair (l.i, j) ++ 10 ∷ []) (range_with_len 0 (l.j - 0))
