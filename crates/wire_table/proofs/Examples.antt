-- The wires of a small gadget that leak, which the definitions compute.
use Rattle.std.proofs.Common.{◌≡◌, ℕ, List, [], ◌∷◌, refl}
use Rattle.std.specs.Prelude.{codes}
use Rattle.gadget_model.specs.Circuit.{Circuit, share, random, sum_of}
use Rattle.mask_terms.specs.declared.wires.Wires.TheVariants.{Plain, Copies}
use Rattle.wire_table.specs.Items.{Item}
use Rattle.wire_table.specs.declared.item.ItemKind.{ItemKind}
use Rattle.wire_table.specs.declared.item.ItemKind.TheVariants.{Internal, Output}
use Rattle.wire_table.specs.Uses.{uses_of, wire_items}

-- r is used twice, s never, the output c0 once and the output c1 never
abbrev chain : Circuit
chain = record {
  shares = 2;
  inputs = codes "a" ∷ [];
  randoms = 2;
  outputs = codes "c" ∷ [];
  output_shares = 4 ∷ 6 ∷ [];
  variables =
      record { name = codes "a0"; node = share 0; line = 2 }
      ∷ record { name = codes "a1"; node = share 1; line = 2 }
      ∷ record { name = codes "r"; node = random 0; line = 3 }
      ∷ record { name = codes "s"; node = random 1; line = 3 }
      ∷ record { name = codes "c0"; node = sum_of 0 2; line = 5 }
      ∷ record { name = codes "x"; node = sum_of 1 2; line = 6 }
      ∷ record { name = codes "c1"; node = sum_of 5 4; line = 7 }
      ∷ [];
}

abbrev item : List ℕ → ℕ → ItemKind → ℕ → Item
item name v kind weight = record { name = name; variables = v ∷ []; kind = kind; weight = weight }

-- each variable is one wire, but not an output that nothing uses
wire_items-plain : wire_items Plain chain
    ≡ item (codes "a0") 0 Internal 1
    ∷ item (codes "a1") 1 Internal 1
    ∷ item (codes "r") 2 Internal 1
    ∷ item (codes "s") 3 Internal 1
    ∷ item (codes "c0") 4 (Output 0) 1
    ∷ item (codes "x") 5 Internal 1
    ∷ []
unfolding wire_items uses_of
wire_items-plain = refl

-- with copies r is three wires, and c0 two
wire_items-copies : wire_items Copies chain
    ≡ item (codes "a0") 0 Internal 1
    ∷ item (codes "a1") 1 Internal 1
    ∷ item (codes "r") 2 Internal 3
    ∷ item (codes "s") 3 Internal 1
    ∷ item (codes "c0") 4 (Output 0) 2
    ∷ item (codes "x") 5 Internal 1
    ∷ []
unfolding wire_items uses_of
wire_items-copies = refl
