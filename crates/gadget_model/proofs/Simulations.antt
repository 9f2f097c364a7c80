-- Laws of simulatability.
use Rattle.std.proofs.Common.{◌≡◌, ℕ, zero, suc, Bool, true, false, eqb, List, [], ◌∷◌, map, refl, ap, sym, ◌∙◌, inl, inr, arith, Some, subst}
use Rattle.std.specs.Prelude.{count_by, Contains, slice_get}
use Rattle.std.specs.Int.{bit_at}
use Rattle.std.proofs.lemmas.Bool.{cases_eq}
use Rattle.std.proofs.lemmas.Bool.Decides.{eqb_tells}
use Rattle.gadget_model.specs.Bits.{same_bits, assignments}
use Rattle.gadget_model.specs.Circuit.{share, Circuit, nodes, value, IsInOrder}
use Rattle.gadget_model.specs.Simulation.{observation, distribution, SameDistribution, HasShare, IsWithin, AgreeOn, IsSimulatable, HasAllShares}
use Rattle.gadget_model.proofs.AllAssignments.{length-assignments}
use Rattle.gadget_model.proofs.Values.{value-node, value-same}
use Rattle.list_laws.proofs.Counts.{count_by-map, count_by-all, count_by-none, map-map, map-same}
use Rattle.gadget_model.proofs.Distributions.{count_by-same}
use Rattle.gadget_model.proofs.Projections.{picked, places}

-- fewer probes are simulatable from more shares
pub IsSimulatable-fewer : (g : Circuit) (probes fewer : List ℕ) (set more : ℕ) → IsSimulatable g probes set →
    ((v : ℕ) → Contains fewer v → Contains probes v) → IsWithin set more → IsSimulatable g fewer more
unfolding IsSimulatable
IsSimulatable-fewer g probes fewer set more sim within wider x x' agree y =
    let p = places probes fewer within in
    let same = sim x x' (λ k h. agree k (wider k h)) in
    let e : (z : ℕ → Bool) → map (picked p.0) (distribution g probes z) ≡ distribution g fewer z =
    λ z. map-map (picked p.0) (observation g probes z) (observation g fewer z) (λ r. p.1 (value g z r)) (assignments g.randoms) in
    ap (count_by (same_bits y)) (sym (e x))
    ∙ count_by-map (picked p.0) (same_bits y) (distribution g probes x)
    ∙ count_by-same (distribution g probes x) (distribution g probes x') same (λ b. same_bits y (picked p.0 b))
    ∙ sym (count_by-map (picked p.0) (same_bits y) (distribution g probes x'))
    ∙ ap (count_by (same_bits y)) (e x')

-- where the probes have the same values at both inputs, whatever the randoms are, the distributions are the same
pub distribution-same : (g : Circuit) (probes : List ℕ) (x x' : ℕ → Bool) → ((r : List Bool) → observation g probes x r ≡ observation g probes x' r) →
    SameDistribution (distribution g probes x) (distribution g probes x')
distribution-same g probes x x' same y =
    ap (count_by (same_bits y)) (map-same (observation g probes x) (observation g probes x') same (assignments g.randoms))

-- any probes are simulatable from all input shares
pub IsSimulatable-all_shares : (g : Circuit) (probes : List ℕ) (set : ℕ) → HasAllShares g set → IsSimulatable g probes set
unfolding IsSimulatable
IsSimulatable-all_shares g probes set has x x' agree =
    distribution-same g probes x x' (λ r. map-same (value g x r) (value g x' r) (λ v. value-same g x x' r v (λ j k h. agree k (has j k h))) probes)

pub IsSimulatable-nil : (g : Circuit) → IsSimulatable g [] 0
unfolding IsSimulatable
IsSimulatable-nil g x x' agree = distribution-same g [] x x' (λ r. refl)

pub Contains-only : (probes : List ℕ) (v w : ℕ) → Contains probes v → Contains (v ∷ []) w → Contains probes w
Contains-only probes v w among (zero, less, e) = let P : ℕ → Type 0 = λ z. Contains probes z in subst P e among
Contains-only probes v w among (suc k, less, e) = absurd (omega arith)

-- the input of which share k alone is 1
only : ℕ → ℕ → Bool
only k j = eqb j k

eqb-same : (k : ℕ) → eqb k k ≡ true
eqb-same k = elim (eqb_tells k k) [ inl same ↦ same.0 | inr other ↦ absurd (other.1 refl) ]

-- a probe that is always true at the one input and always false at the other
pub told_apart : (g : Circuit) (v : ℕ) (x x' : ℕ → Bool) → ((r : List Bool) → value g x r v ≡ true) → ((r : List Bool) → value g x' r v ≡ false) →
    SameDistribution (distribution g (v ∷ []) x) (distribution g (v ∷ []) x') → ⊥
told_apart g v x x' on off same =
    let test : List Bool → Bool = same_bits (true ∷ []) in
    let all = count_by-map (observation g (v ∷ []) x) test (assignments g.randoms)
    ∙ count_by-all (λ r. test (observation g (v ∷ []) x r)) (λ r. ap (λ (b : Bool). test (b ∷ [])) (on r)) (assignments g.randoms) in
    let none = count_by-map (observation g (v ∷ []) x') test (assignments g.randoms)
    ∙ count_by-none (λ r. test (observation g (v ∷ []) x' r)) (λ r. ap (λ (b : Bool). test (b ∷ [])) (off r)) (assignments g.randoms) in
    let some = length-assignments g.randoms in
    let e = same (true ∷ []) in
    omega arith

-- a share in the clear is simulatable only from sets that have it
pub HasShare-clear : (g : Circuit) (probes : List ℕ) (set v k : ℕ) → IsInOrder g → Contains probes v →
    slice_get (nodes g) v ≡ Some (share k) → IsSimulatable g probes set → HasShare set k
unfolding IsSimulatable only
HasShare-clear g probes set v k ordered among is_share sim =
    elim (cases_eq (bit_at set k) 1) [
      | inl has ↦ has
      | inr misses ↦
          let one = IsSimulatable-fewer g probes (v ∷ []) set set sim (λ w h. Contains-only probes v w among h) (λ j h. h) in
          let agree : AgreeOn set (only k) (λ j. false) = λ j h. elim (eqb_tells j k) [
            | inl same ↦ let P : ℕ → Type 0 = λ i. bit_at set i ≡ 1 in absurd (misses (subst P same.1 h))
            | inr other ↦ other.0
          ] in
          absurd (told_apart g v (only k) (λ j. false)
          (λ r. value-node g ordered (only k) r v (share k) is_share ∙ eqb-same k)
          (λ r. value-node g ordered (λ j. false) r v (share k) is_share)
          (one (only k) (λ j. false) agree))
    ]
