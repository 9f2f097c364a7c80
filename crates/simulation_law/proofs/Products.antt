-- A sum of different products is a function of a set exactly where the shares of each product are within it.
use Rattle.std.proofs.Common.{◌≡◌, ◌≢◌, ◌↔◌, ℕ, ◌^◌, ◌<◌, Bool, true, false, List, map, length, get_or, ap, sym, ◌∙◌, inl, inr, arith}
use Rattle.std.specs.List.{All, AllPairs}
use Rattle.std.specs.Int.{bit_at}
use Rattle.gadget_model.specs.Simulation.{AgreeOn, IsWithin}
use Rattle.gadget_model.specs.Polynomials.{set_product}
use Rattle.bit_lists.specs.BitLists.{chosen_sum}
use Rattle.bit_lists.proofs.NumberBits.{bit_cases}
use Rattle.simulation_law.specs.Elimination.{IsFunctionOf}
use Rattle.simulation_law.proofs.SetProducts.{set_product-agree}
use Rattle.simulation_law.proofs.Dependence.{polynomial_value-agree, ChangesWith-each}
use Rattle.simulation_law.proofs.Chosen.{chosen, chosen_sum-products, Contains-chosen, taken_from_chosen, All-chosen, AllPairs-chosen}

-- the sum of the chosen products at inputs
abbrev chosen_products : List Bool → List ℕ → (ℕ → Bool) → Bool
chosen_products choice products x = chosen_sum choice (map (λ p. set_product 64 p x) products)

-- the shares of each chosen product are within the set
abbrev AreWithin : List Bool → List ℕ → ℕ → Type 0
AreWithin choice products set = (j : ℕ) → j < length products → get_or choice j false ≡ true → IsWithin (get_or products j 0) set

-- inputs that agree on the set give each chosen product one value
IsFunctionOf-from_within : (products : List ℕ) (choice : List Bool) (set : ℕ) → AreWithin choice products set → IsFunctionOf (chosen_products choice products) set
IsFunctionOf-from_within products choice set within x x' agree =
    chosen_sum-products 64 choice products x
    ∙ polynomial_value-agree 64 (chosen choice products) x x' (λ p among. set_product-agree 64 p x x' (λ k has. agree k (
    let t = taken_from_chosen choice products p among in within t.0 t.1 t.2 k (ap (λ (q : ℕ). bit_at q k) t.3 ∙ has))))
    ∙ sym (chosen_sum-products 64 choice products x')

-- a share of a chosen product is in the set, since the sum changes with it
within_from_IsFunctionOf : (products : List ℕ) (choice : List Bool) (set : ℕ) → AllPairs (λ p q. p ≢ q) products → All (λ p. p < 2 ^ 64) products →
    IsFunctionOf (chosen_products choice products) set → AreWithin choice products set
within_from_IsFunctionOf products choice set distinct small function j l taken k has = elim (bit_cases set k) [
  | inr one ↦ one
  | inl none ↦
      let c = ChangesWith-each 64 (chosen choice products) (get_or products j 0) k
      (All-chosen (λ p. p < 2 ^ 64) choice products small)
      (AllPairs-chosen (λ p q. p ≢ q) choice products distinct)
      (Contains-chosen choice products j l taken) has in
      let agree : AgreeOn set c.0 c.1 = λ i member. c.2 i (λ e. let q = ap (bit_at set) e in absurd (omega arith)) in
      absurd (c.3 (sym (chosen_sum-products 64 choice products c.0) ∙ function c.0 c.1 agree ∙ chosen_sum-products 64 choice products c.1))
]

-- the law of products
pub IsFunctionOf-products : (products : List ℕ) (choice : List Bool) (set : ℕ) →
    AllPairs (λ p q. p ≢ q) products → All (λ p. p < 2 ^ 64) products → length choice ≡ length products →
    IsFunctionOf (λ x. chosen_sum choice (map (λ p. set_product 64 p x) products)) set
    ↔ ((j : ℕ) → j < length products → get_or choice j false ≡ true → IsWithin (get_or products j 0) set)
IsFunctionOf-products products choice set distinct small lengths =
    (within_from_IsFunctionOf products choice set distinct small, IsFunctionOf-from_within products choice set)
