-- Sets of output shares and what exceeds, on a small gadget, which the definitions compute.
use Rattle.std.proofs.Common.{◌≡◌, zero, suc, [], ◌∷◌, refl, arith}
use Rattle.std.specs.Prelude.{codes}
use Rattle.gadget_model.specs.Circuit.{Circuit, share, random, sum_of}
use Rattle.wire_table.specs.declared.item.ItemKind.TheVariants.{Internal}
use Rattle.wire_table.specs.declared.which.Which.TheVariants.{Any, Input, Both}
use Rattle.needed.specs.ShareCounts.{shares_of}
use Rattle.rp_events.specs.Failing.{Exceeds, output_variable, shares_in, simulated}

-- two shares of one input, refreshed and not: shares a0 and a1, a random r, and the outputs c = (a0 + r, a1 + r)
-- and d = (a0, a1)
abbrev refreshed : Circuit
refreshed = record {
  shares = 2;
  inputs = codes "a" ∷ [];
  randoms = 1;
  outputs = codes "c" ∷ codes "d" ∷ [];
  output_shares = 3 ∷ 4 ∷ 0 ∷ 1 ∷ [];
  variables =
      record { name = codes "a0"; node = share 0; line = 2 }
      ∷ record { name = codes "a1"; node = share 1; line = 2 }
      ∷ record { name = codes "r"; node = random 0; line = 3 }
      ∷ record { name = codes "c0"; node = sum_of 0 2; line = 5 }
      ∷ record { name = codes "c1"; node = sum_of 1 2; line = 6 }
      ∷ [];
}

-- share 1 of the second output
output_variable-second : output_variable refreshed 17 ≡ 1
output_variable-second = refl

-- no share, and share 0 of the first output with share 1 of the second
shares_in-none : shares_in refreshed 0 ≡ []
shares_in-none = refl

shares_in-both : shares_in refreshed 0x2_0001 ≡ 3 ∷ 1 ∷ []
shares_in-both = refl

-- these come after the variables of a tuple
simulated-after : simulated refreshed (record { name = []; variables = 2 ∷ []; kind = Internal; weight = 1 } ∷ []) (0 ∷ []) 0x2_0001 ≡ 2 ∷ 3 ∷ 1 ∷ []
simulated-after = refl

-- two shares of an input are more than one, and not more than two
exceeds-any : Exceeds refreshed 1 Any 3
unfolding shares_of
exceeds-any = (0, omega arith, omega arith)

not_exceeds-any : Exceeds refreshed 2 Any 3 → ⊥
unfolding shares_of
not_exceeds-any (zero, l, more) = absurd (omega arith)
not_exceeds-any (suc input, l, more) = absurd (omega arith)

-- they are shares of the first input, and not of each of two
exceeds-first : Exceeds refreshed 1 (Input 0) 3
unfolding shares_of
exceeds-first = omega arith

not_exceeds-second : Exceeds refreshed 1 (Input 1) 3 → ⊥
unfolding shares_of
not_exceeds-second more = absurd (omega arith)

not_exceeds-both : Exceeds refreshed 1 Both 3 → ⊥
unfolding shares_of
not_exceeds-both (first, second) = absurd (omega arith)

exceeds-both : Exceeds refreshed 1 Both 0x3_0003
unfolding shares_of
exceeds-both = (omega arith, omega arith)
