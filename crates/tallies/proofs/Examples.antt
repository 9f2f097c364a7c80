-- Small tallies, worked out by hand.
use Rattle.std.proofs.Common.{◌≡◌, ◌-◌, ◌^◌, refl, [], ◌∷◌}
use Rattle.tallies.specs.declared.tally.TallyKind.TheVariants.{Size, Item}
use Rattle.tallies.specs.Counting.{counted, counted_all}

-- two tuples of two items, of which one item is past the counts
sizes : counted_all Size ((0 ∷ 1 ∷ []) ∷ (1 ∷ 7 ∷ []) ∷ []) (0 ∷ 0 ∷ 0 ∷ []) ≡ 0 ∷ 0 ∷ 2 ∷ []
sizes = refl

items : counted_all Item ((0 ∷ 1 ∷ []) ∷ (1 ∷ 7 ∷ []) ∷ []) (0 ∷ 0 ∷ 5 ∷ []) ≡ 1 ∷ 2 ∷ 5 ∷ []
items = refl

-- the greatest number of 64 bits stays
greatest : counted Size [] ((2 ^ 64 - 1) ∷ []) ≡ (2 ^ 64 - 1) ∷ []
greatest = refl
