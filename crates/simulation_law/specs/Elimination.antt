-- The two sides of the law of elimination: what is simulatable, and what is a function of some input shares.
use Rattle.std.specs.Prelude.{◌≡◌, ℕ, Bool, List, length}
use Rattle.bit_lists.specs.BitLists.{add_bits, chosen_sum}
use Rattle.gadget_model.specs.Circuit.{Circuit}
use Rattle.gadget_model.specs.Simulation.{observation, SameDistribution, AgreeOn}
use Rattle.simulation_law.specs.Linear.{IsLinear, RandomsCancel}

-- Values that have this distribution at each input are simulatable from a set of input shares:
-- inputs that agree on the set give one distribution.
abbrev pub IsSimulatableFrom : ((ℕ → Bool) → List (List Bool)) → ℕ → Type 0
IsSimulatableFrom distribution_at set =
    (x x' : ℕ → Bool) → AgreeOn set x x' → SameDistribution (distribution_at x) (distribution_at x')

-- A bit that the inputs determine is a function of the shares in a set: inputs that agree on the set give one bit.
abbrev pub IsFunctionOf : ((ℕ → Bool) → Bool) → ℕ → Type 0
IsFunctionOf bit_at_input set = (x x' : ℕ → Bool) → AgreeOn set x x' → bit_at_input x ≡ bit_at_input x'

-- Of values f(x) + M r, each sum of chosen ones in which all randoms cancel is a function of the shares in a set. A
-- choice has a bit for each value.
abbrev pub CancelledSumsAreFunctionsOf : ℕ → ℕ → ((ℕ → Bool) → List Bool) → (List Bool → List Bool) → ℕ → Type 0
CancelledSumsAreFunctionsOf randoms values f M set =
    (choice : List Bool) → length choice ≡ values → RandomsCancel randoms M choice →
    IsFunctionOf (λ x. chosen_sum choice (f x)) set

-- The randoms are additive in what the probes observe: it is f(x) + M r, with a linear M, at all inputs x and for each
-- assignment r of the gadget's randoms.
pub record HasAdditiveRandoms (g : Circuit) (probes : List ℕ)
    (f : (ℕ → Bool) → List Bool) (M : List Bool → List Bool) : Type 0 where
  pub lengths : (x : ℕ → Bool) → length (f x) ≡ length probes
  pub linear : IsLinear g.randoms (length probes) M
  pub observes : (x : ℕ → Bool) (r : List Bool) → length r ≡ g.randoms → observation g probes x r ≡ add_bits (f x) (M r)
