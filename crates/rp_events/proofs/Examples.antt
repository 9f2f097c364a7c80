-- Examples that compute.
use Rattle.std.proofs.Common.{◌≡◌, ℕ, ◌^◌, [], ◌∷◌, map, refl, ap, ◌∙◌}
use Rattle.std.specs.Prelude.{codes, if◌then◌else◌, nat_lt, Some, None}
use Rattle.gadget_model.specs.Circuit.{Circuit, share, random, sum_of}
use Rattle.wire_table.specs.declared.which.Which.TheVariants.{Any, Input, Both}
use Rattle.rp_events.specs.declared.rp.Rp.TheVariants.{Rpc, Rpe}
use Rattle.rp_events.specs.declared.rp.RpError.TheVariants.{ManyEvents, OrderTooLarge}
use Rattle.rp_events.specs.Events.{events_of, event_count, refusal}
use Rattle.tuple_order.proofs.Counting.{length-rising}
use Rattle.rp_events.proofs.Counts.{event_count-Rpc}

-- two shares are refreshed by one random
refresh : Circuit
refresh = record {
  shares = 2;
  inputs = codes "a" ∷ [];
  randoms = 1;
  outputs = codes "d" ∷ [];
  output_shares = 3 ∷ 4 ∷ [];
  variables =
      record { name = codes "a0"; node = share 0; line = 2 }
      ∷ record { name = codes "a1"; node = share 1; line = 2 }
      ∷ record { name = codes "r0"; node = random 0; line = 3 }
      ∷ record { name = codes "d0"; node = sum_of 0 2; line = 5 }
      ∷ record { name = codes "d1"; node = sum_of 1 2; line = 6 }
      ∷ [];
}

refresh-composability : events_of Rpc refresh 1 ≡
    record { name = codes "rpc d0"; sets = 1 ∷ []; which = Any }
    ∷ record { name = codes "rpc d1"; sets = 2 ∷ []; which = Any } ∷ []
unfolding refresh events_of
refresh-composability = refl

-- all shares of the output are given in one way
refresh-whole : events_of Rpc refresh 2 ≡ record { name = codes "rpc d0 d1"; sets = 3 ∷ []; which = Any } ∷ []
unfolding refresh events_of
refresh-whole = refl

-- in mode 2 the simulator chooses one of the two shares
refresh-expandability : events_of Rpe refresh 1 ≡
    record { name = codes "rpe1.in0 d0"; sets = 1 ∷ []; which = Input 0 }
    ∷ record { name = codes "rpe1.in0 d1"; sets = 2 ∷ []; which = Input 0 }
    ∷ record { name = codes "rpe2.in0"; sets = 1 ∷ 2 ∷ []; which = Input 0 } ∷ []
unfolding refresh events_of
refresh-expandability = refl

refresh-refusals : (refusal Rpc refresh 2 ≡ None) × (refusal Rpc refresh 3 ≡ Some OrderTooLarge) × (refusal Rpe refresh 1 ≡ None) × (refusal Rpe refresh 2 ≡ Some OrderTooLarge)
unfolding refresh events_of
refresh-refusals = (refl, refl, refl, refl)

-- two outputs that are the two inputs: the first output's shares vary slowest, and expandability asks over both inputs
pair : Circuit
pair = record {
  shares = 2;
  inputs = codes "a" ∷ codes "b" ∷ [];
  randoms = 0;
  outputs = codes "a" ∷ codes "b" ∷ [];
  output_shares = 0 ∷ 1 ∷ 2 ∷ 3 ∷ [];
  variables =
      record { name = codes "a0"; node = share 0; line = 2 }
      ∷ record { name = codes "a1"; node = share 1; line = 2 }
      ∷ record { name = codes "b0"; node = share 16; line = 2 }
      ∷ record { name = codes "b1"; node = share 17; line = 2 }
      ∷ [];
}

pair-composability : map (λ event. event.name) (events_of Rpc pair 1) ≡
    codes "rpc a0 b0" ∷ codes "rpc a0 b1" ∷ codes "rpc a1 b0" ∷ codes "rpc a1 b1" ∷ []
unfolding pair events_of
pair-composability = refl

pair-sets : map (λ event. event.sets) (events_of Rpc pair 1) ≡ (65537 ∷ []) ∷ (131073 ∷ []) ∷ (65538 ∷ []) ∷ (131074 ∷ []) ∷ []
unfolding pair events_of
pair-sets = refl

-- by modes, then by inputs; what the simulator chooses of the first output varies slowest too
pair-expandability : events_of Rpe pair 0 ≡
    record { name = codes "rpe11.in0"; sets = 0 ∷ []; which = Input 0 }
    ∷ record { name = codes "rpe11.in1"; sets = 0 ∷ []; which = Input 1 }
    ∷ record { name = codes "rpe11.both"; sets = 0 ∷ []; which = Both }
    ∷ record { name = codes "rpe12.in0"; sets = 65536 ∷ 131072 ∷ []; which = Input 0 }
    ∷ record { name = codes "rpe12.in1"; sets = 65536 ∷ 131072 ∷ []; which = Input 1 }
    ∷ record { name = codes "rpe12.both"; sets = 65536 ∷ 131072 ∷ []; which = Both }
    ∷ record { name = codes "rpe21.in0"; sets = 1 ∷ 2 ∷ []; which = Input 0 }
    ∷ record { name = codes "rpe21.in1"; sets = 1 ∷ 2 ∷ []; which = Input 1 }
    ∷ record { name = codes "rpe21.both"; sets = 1 ∷ 2 ∷ []; which = Both }
    ∷ record { name = codes "rpe22.in0"; sets = 65537 ∷ 131073 ∷ 65538 ∷ 131074 ∷ []; which = Input 0 }
    ∷ record { name = codes "rpe22.in1"; sets = 65537 ∷ 131073 ∷ 65538 ∷ 131074 ∷ []; which = Input 1 }
    ∷ record { name = codes "rpe22.both"; sets = 65537 ∷ 131073 ∷ 65538 ∷ 131074 ∷ []; which = Both } ∷ []
unfolding pair events_of
pair-expandability = refl

-- too many events: what is refused is their number, without a list of them
sixteen_shares : Circuit
sixteen_shares = record pair { shares = 16 }

sixteen_shares-refused : refusal Rpc sixteen_shares 8 ≡ Some (ManyEvents 165636900)
unfolding sixteen_shares pair
sixteen_shares-refused =
    let count : event_count Rpc sixteen_shares 8 ≡ 165636900 = event_count-Rpc sixteen_shares 8 ∙ ap (λ (n : ℕ). n ^ 2) (length-rising 8 16 0) in
    ap (λ (n : ℕ). if nat_lt 65536 n then Some (ManyEvents n) else None) count
