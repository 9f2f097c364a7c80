-- The law of elimination, for values f(x) + M r and for probes that observe such values.
use Rattle.std.proofs.Common.{◌≡◌, ◌↔◌, ℕ, Bool, List, length, ap, sym, ◌∙◌, inl, inr}
use Rattle.std.specs.Prelude.{count_by}
use Rattle.list_laws.proofs.Counts.{count_by-map}
use Rattle.gadget_model.specs.Bits.{add, same_bits, assignments}
use Rattle.gadget_model.specs.Circuit.{Circuit}
use Rattle.gadget_model.specs.Simulation.{observation, distribution, SameDistribution, IsSimulatable}
use Rattle.gadget_model.proofs.Sums.{add-same}
use Rattle.gadget_model.proofs.Distributions.{count_by-same}
use Rattle.bit_lists.specs.BitLists.{add_bits, chosen_sum}
use Rattle.bit_lists.proofs.BitLists.{add_bits-assoc, add_bits-cancel, length-add_bits, chosen_sum-add_bits}
use Rattle.simulation_law.specs.Linear.{IsLinear, RandomsCancel, linear_distribution}
use Rattle.simulation_law.specs.Elimination.{IsSimulatableFrom, CancelledSumsAreFunctionsOf, HasAdditiveRandoms}
use Rattle.simulation_law.proofs.Assignments.{map-assignments, SameDistribution-translate, count_by-constant}
use Rattle.simulation_law.proofs.Choices.{resized, length-resized, chosen_sum-resized}
use Rattle.simulation_law.proofs.Linear.{chosen_sum-cancelling, RandomsCancel-resized}
use Rattle.simulation_law.proofs.Reached.{reached_or_separated}

-- The distribution is that of each list in the coset: to add what the map gives for some randoms changes nothing.
pub SameDistribution-reached : (n m : ℕ) (M : List Bool → List Bool) → IsLinear n m M → (v s : List Bool) → length s ≡ n →
    SameDistribution (linear_distribution n M (add_bits v (M s))) (linear_distribution n M v)
SameDistribution-reached n m M h v s e y =
    ap (count_by (same_bits y)) (map-assignments (λ r. add_bits (add_bits v (M s)) (M r)) (λ r. add_bits v (M (add_bits s r))) n
    (λ r l. add_bits-assoc v (M s) (M r) ∙ ap (add_bits v) (sym (h.sums s r e l))))
    ∙ SameDistribution-translate (λ r. add_bits v (M r)) n s e y

-- Where each choice in which the randoms cancel has the same sum at v and at w, the distributions are the same: v + w is reached.
pub SameDistribution-linear : (n m : ℕ) (M : List Bool → List Bool) → IsLinear n m M → (v w : List Bool) → length v ≡ m → length w ≡ m →
    ((c : List Bool) → length c ≡ m → RandomsCancel n M c → chosen_sum c v ≡ chosen_sum c w) →
    SameDistribution (linear_distribution n M v) (linear_distribution n M w)
SameDistribution-linear n m M h v w e e' same y = elim (reached_or_separated n m M h (add_bits v w) (length-add_bits v w (e ∙ sym e') ∙ e')) [
  | inl s ↦
      let moved : add_bits v (M s.0) ≡ w = ap (add_bits v) s.2 ∙ add_bits-cancel v w (e ∙ sym e') in
      sym (SameDistribution-reached n m M h v s.0 s.1 y) ∙ ap (λ (z : List Bool). count_by (same_bits y) (linear_distribution n M z)) moved
  | inr c ↦
      let equal : chosen_sum c.0 v ≡ chosen_sum c.0 w =
      sym (chosen_sum-resized m c.0 v e) ∙ same (resized m c.0) (length-resized m c.0) (RandomsCancel-resized n m M h c.0 c.1) ∙ chosen_sum-resized m c.0 w e' in
      let none = ap (add (chosen_sum c.0 v)) (sym equal) ∙ add-same (chosen_sum c.0 v) in
      let some = sym (chosen_sum-add_bits c.0 v w) ∙ c.2 in
      absurd (cc)
]

-- a choice in which the randoms cancel has its sum true always or never, as it is at v
pub count_by-cancelling : (n : ℕ) (M : List Bool → List Bool) (c : List Bool) → RandomsCancel n M c → (v : List Bool) →
    count_by (chosen_sum c) (linear_distribution n M v) ≡ count_by (λ r. chosen_sum c v) (assignments n)
count_by-cancelling n M c cancels v =
    count_by-map (λ r. add_bits v (M r)) (chosen_sum c) (assignments n)
    ∙ sym (count_by-map (λ r. chosen_sum c (add_bits v (M r))) (λ b. b) (assignments n))
    ∙ ap (count_by (λ b. b)) (map-assignments (λ r. chosen_sum c (add_bits v (M r))) (λ r. chosen_sum c v) n (λ r e. chosen_sum-cancelling n M c cancels v r e))
    ∙ count_by-map (λ (r : List Bool). chosen_sum c v) (λ b. b) (assignments n)

-- Where the distributions are the same, each choice in which the randoms cancel has the same sum at v and at w.
pub chosen_sum-same : (n : ℕ) (M : List Bool → List Bool) (v w : List Bool) → SameDistribution (linear_distribution n M v) (linear_distribution n M w) →
    (c : List Bool) → RandomsCancel n M c → chosen_sum c v ≡ chosen_sum c w
chosen_sum-same n M v w same c cancels =
    count_by-constant n (chosen_sum c v) (chosen_sum c w) (
    sym (count_by-cancelling n M c cancels v)
    ∙ count_by-same (linear_distribution n M v) (linear_distribution n M w) same (chosen_sum c)
    ∙ count_by-cancelling n M c cancels w)

-- the law of elimination for values f(x) + M r
pub IsSimulatableFrom-linear : (randoms values : ℕ) (f : (ℕ → Bool) → List Bool) (M : List Bool → List Bool) (set : ℕ) →
    ((x : ℕ → Bool) → length (f x) ≡ values) → IsLinear randoms values M →
    IsSimulatableFrom (λ x. linear_distribution randoms M (f x)) set
    ↔ CancelledSumsAreFunctionsOf randoms values f M set
IsSimulatableFrom-linear randoms values f M set lengths linear = (
  (λ simulatable choice size cancels x x' agree. chosen_sum-same randoms M (f x) (f x') (simulatable x x' agree) choice cancels),
  (λ functions x x' agree. SameDistribution-linear randoms values M linear (f x) (f x') (lengths x) (lengths x')
      (λ choice size cancels. functions choice size cancels x x' agree)),
)

-- what the probes observe has the distribution of f(x) + M r
pub distribution-additive : (g : Circuit) (probes : List ℕ) (f : (ℕ → Bool) → List Bool) (M : List Bool → List Bool) →
    HasAdditiveRandoms g probes f M → (x : ℕ → Bool) → distribution g probes x ≡ linear_distribution g.randoms M (f x)
distribution-additive g probes f M h x = map-assignments (observation g probes x) (λ r. add_bits (f x) (M r)) g.randoms (h.observes x)

-- the law of elimination for probes that observe f(x) + M r
pub IsSimulatable-additive : (g : Circuit) (probes : List ℕ) (f : (ℕ → Bool) → List Bool) (M : List Bool → List Bool) (set : ℕ) →
    HasAdditiveRandoms g probes f M →
    IsSimulatable g probes set
    ↔ CancelledSumsAreFunctionsOf g.randoms (length probes) f M set
unfolding IsSimulatable
IsSimulatable-additive g probes f M set h =
    let law = IsSimulatableFrom-linear g.randoms (length probes) f M set h.lengths h.linear in
    let e = distribution-additive g probes f M h in (
      (λ simulatable. law.0 (λ x x' agree y. ap (count_by (same_bits y)) (sym (e x)) ∙ simulatable x x' agree y ∙ ap (count_by (same_bits y)) (e x'))),
      (λ functions x x' agree y. ap (count_by (same_bits y)) (e x) ∙ law.1 functions x x' agree y ∙ ap (count_by (same_bits y)) (sym (e x'))),
    )
