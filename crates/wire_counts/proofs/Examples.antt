-- The definitions at small numbers.
use Rattle.std.proofs.Common.{◌≡◌, ℕ, List, [], ◌∷◌, refl, inl, inr}
use Rattle.wire_counts.specs.Coefficients.{item_wires, sets_of_size, items_of_wires, IsCoefficient}
use Rattle.wire_counts.specs.Ways.{sets_with}

-- two items, of which the second stands for two wires
wires-of_two : item_wires (1 ∷ 2 ∷ []) ≡ record { item = 0; copy = 0 } ∷ record { item = 1; copy = 0 } ∷ record { item = 1; copy = 1 } ∷ []
wires-of_two = refl

wires-of_none : item_wires (0 ∷ 1 ∷ []) ≡ record { item = 1; copy = 0 } ∷ []
wires-of_none = refl

pairs : sets_of_size {X = ℕ} 2 (0 ∷ 1 ∷ 2 ∷ []) ≡ (0 ∷ 1 ∷ []) ∷ (0 ∷ 2 ∷ []) ∷ (1 ∷ 2 ∷ []) ∷ []
pairs = refl

items-once : items_of_wires (record { item = 1; copy = 0 } ∷ record { item = 1; copy = 1 } ∷ []) ≡ 1 ∷ []
items-once = refl

-- Items of weights 1, 1 and 3: of the ten pairs of wires one has the items 0 and 1, and three have 1 and 2.
sets-of_first_two : sets_with (1 ∷ 1 ∷ 3 ∷ []) (0 ∷ 1 ∷ []) 2 ≡ 1
sets-of_first_two = refl

sets-of_last_two : sets_with (1 ∷ 1 ∷ 3 ∷ []) (1 ∷ 2 ∷ []) 3 ≡ 3
sets-of_last_two = refl

sets-of_too_few : sets_with (1 ∷ 1 ∷ 3 ∷ []) (1 ∷ 2 ∷ []) 1 ≡ 0
sets-of_too_few = refl

-- of the three pairs of wires the one with item 1 alone doesn't fail, where failing means that item 0 is there
abbrev FailsWithZero : List ℕ → Type 0
FailsWithZero [] = ⊥
FailsWithZero (x ∷ t) = x ≡ 0

pairs-failing : IsCoefficient FailsWithZero (1 ∷ 2 ∷ []) 2 2
pairs-failing = record {
  failing = (record { item = 0; copy = 0 } ∷ record { item = 1; copy = 0 } ∷ []) ∷ (record { item = 0; copy = 0 } ∷ record { item = 1; copy = 1 } ∷ []) ∷ [];
  picked = inl (refl, _, refl, inl (refl, _, refl, inr ((λ e. cc), refl)));
  count = refl;
}
