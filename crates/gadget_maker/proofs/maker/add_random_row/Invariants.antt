use Rattle.std.proofs.Common.{◌≡◌, ◌++◌, ◌+◌, ◌-◌, ◌∷◌, codes, flat_map}
use Rattle.std.specs.List.{range_with_len}
use Rattle.gadget_maker.specs.Texts.{paired}
use Rattle.gadget_maker.proofs.maker.add_random_row.Given as goal

abbrev pub invariant-loop-j : goal.invariant-loop-j
invariant-loop-j l = l.text.items ≡ l.initial.text.items ++ flat_map (λ j. 32 ∷ paired (codes "r") l.i j) (range_with_len (l.i + 1) (l.j - (l.i + 1)))
