-- The items and the notions on small gadgets, which the definitions compute.
use Rattle.std.proofs.Common.{◌≡◌, ℕ, zero, suc, List, [], ◌∷◌, ◌++◌, refl, inl, inr, arith, Contains}
use Rattle.std.specs.Prelude.{codes, decimal}
use Rattle.list_laws.proofs.Members.{Contains-cons_cases}
use Rattle.gadget_model.specs.Circuit.{Circuit, share, random, sum_of}
use Rattle.wire_table.specs.Items.{Item, variables_in}
use Rattle.wire_table.specs.declared.item.ItemKind.{ItemKind}
use Rattle.wire_table.specs.declared.item.ItemKind.TheVariants.{Internal, Output}
use Rattle.notions.specs.declared.notion.Notion.TheVariants.{Ni, Sni, Pini}
use Rattle.notions.specs.Items.{items_of}
use Rattle.notions.specs.Notions.{internal_count, kind_at, Grants}
use Rattle.needed.specs.ShareCounts.{shares_of}

-- two shares of one input, refreshed and not: shares a0 and a1, a random r, and the outputs c = (a0 + r, a1 + r)
-- and d = (a0, a1)
abbrev two : Circuit
two = record {
  shares = 2;
  inputs = codes "a" ∷ [];
  randoms = 1;
  outputs = codes "c" ∷ codes "d" ∷ [];
  output_shares = 3 ∷ 4 ∷ 0 ∷ 1 ∷ [];
  variables =
      record { name = codes "a0"; node = share 0; line = 2 }
      ∷ record { name = codes "a1"; node = share 1; line = 2 }
      ∷ record { name = codes "r"; node = random 0; line = 3 }
      ∷ record { name = codes "c0"; node = sum_of 0 2; line = 5 }
      ∷ record { name = codes "c1"; node = sum_of 1 2; line = 6 }
      ∷ [];
}

abbrev item : List ℕ → List ℕ → ItemKind → Item
item name variables kind = record { name = name; variables = variables; kind = kind; weight = 1 }

-- each variable is an item, and says which share of an output it is
items_of-ni : items_of Ni two
    ≡ item (codes "a0") (0 ∷ []) (Output 0)
    ∷ item (codes "a1") (1 ∷ []) (Output 1)
    ∷ item (codes "r") (2 ∷ []) Internal
    ∷ item (codes "c0") (3 ∷ []) (Output 0)
    ∷ item (codes "c1") (4 ∷ []) (Output 1)
    ∷ []
unfolding items_of
items_of-ni = refl

-- PINI has what is no share of an output, and then the columns
items_of-pini : items_of Pini two
    ≡ item (codes "r") (2 ∷ []) Internal
    ∷ item (codes "*" ++ decimal 0) (3 ∷ 0 ∷ []) (Output 0)
    ∷ item (codes "*" ++ decimal 1) (4 ∷ 1 ∷ []) (Output 1)
    ∷ []
unfolding items_of
items_of-pini = refl

-- the variables of the items of a tuple, and how many of these are inside
abbrev some_items : List Item
some_items = item [] (2 ∷ []) Internal ∷ item [] (3 ∷ 0 ∷ []) (Output 0) ∷ item [] (4 ∷ 1 ∷ []) (Output 1) ∷ []

variables_in-two : variables_in some_items (0 ∷ 2 ∷ []) ≡ 2 ∷ 4 ∷ 1 ∷ []
variables_in-two = refl

internal_count-two : internal_count some_items (0 ∷ 2 ∷ []) ≡ 1
internal_count-two = refl

internal_count-outputs : internal_count some_items (1 ∷ 2 ∷ []) ≡ 0
internal_count-outputs = refl

-- shares 0 and 1 of the first input, and share 2 of the second
shares_of-first : shares_of 0 0x4_0003 ≡ 2
unfolding shares_of
shares_of-first = refl

shares_of-second : shares_of 1 0x4_0003 ≡ 1
unfolding shares_of
shares_of-second = refl

-- one share of a column alone is granted by non-interference, and not by strong non-interference
granted-ni : Grants Ni two 1 some_items (1 ∷ []) 1
unfolding shares_of
granted-ni zero l = omega arith
granted-ni (suc input) l = absurd (omega arith)

not_granted-sni : Grants Sni two 1 some_items (1 ∷ []) 1 → ⊥
unfolding shares_of
not_granted-sni granted = let a = granted 0 (omega arith) in absurd (omega arith)

no_output : (i : ℕ) → Contains (1 ∷ []) i → kind_at some_items i ≡ Output 1 → ⊥
no_output zero c is = cc
no_output (suc zero) c is = cc
no_output (suc (suc i)) c is = elim (Contains-cons_cases 1 [] (suc (suc i)) c) [ inl e ↦ absurd (omega arith) | inr none ↦ absurd (omega (arith, none.1)) ]

-- PINI grants the index of that column, and no other
not_granted-pini : Grants Pini two 1 some_items (1 ∷ []) 2 → ⊥
not_granted-pini ([], few, within) =
    elim (within 0 1 (omega arith) (omega arith) refl) [ inl out ↦ no_output out.0 out.1 out.2 | inr none ↦ absurd (omega (arith, none.1)) ]
not_granted-pini (other ∷ others, few, within) = absurd (omega arith)
