-- What a set of probes observes, and from which input shares that can be simulated
-- (Barthe et al., CCS 2016).
use Rattle.std.specs.Prelude.{◌≡◌, ℕ, Bool, List, map, count_by, Some, slice_get}
use Rattle.std.specs.Int.{bit_at}
use Rattle.gadget_model.specs.Bits.{same_bits, assignments}
use Rattle.gadget_model.specs.Circuit.{Circuit, nodes, share, value}

-- What probes on these variables observe, for inputs x and an assignment r of the randoms: their values, in order.
abbrev pub observation : Circuit → List ℕ → (ℕ → Bool) → List Bool → List Bool
observation g probes x r = map (value g x r) probes

-- The distribution of the observation for independent uniform randoms: the observation for each assignment, with
-- repeats.
abbrev pub distribution : Circuit → List ℕ → (ℕ → Bool) → List (List Bool)
distribution g probes x = map (observation g probes x) (assignments g.randoms)

-- Two distributions are the same: each observation comes equally often.
abbrev pub SameDistribution : List (List Bool) → List (List Bool) → Type 0
SameDistribution s s' = (y : List Bool) → count_by (same_bits y) s ≡ count_by (same_bits y) s'

-- A set of input shares is a number: share k is in it where its bit k is 1.
abbrev pub HasShare : ℕ → ℕ → Type 0
HasShare set k = bit_at set k ≡ 1

-- each share of the one set is in the other
abbrev pub IsWithin : ℕ → ℕ → Type 0
IsWithin small large = (k : ℕ) → HasShare small k → HasShare large k

-- two inputs agree on the shares of a set
abbrev pub AgreeOn : ℕ → (ℕ → Bool) → (ℕ → Bool) → Type 0
AgreeOn set x x' = (k : ℕ) → HasShare set k → x k ≡ x' k

-- The probes are (perfectly) simulatable from a set of input shares: inputs that agree on the set
-- give one distribution, so whoever knows these shares alone can draw the observation.
unfoldable pub IsSimulatable : Circuit → List ℕ → ℕ → Type 0
IsSimulatable g probes set =
    (x x' : ℕ → Bool) → AgreeOn set x x' → SameDistribution (distribution g probes x) (distribution g probes x')

-- each input share that is a variable of the gadget is in the set
abbrev pub HasAllShares : Circuit → ℕ → Type 0
HasAllShares g set = (v k : ℕ) → slice_get (nodes g) v ≡ Some (share k) → HasShare set k
