-- How monomials that arise twice cancel, by their keys.
use Rattle.std.specs.Prelude.{◌≡◌, ℕ, ◌-◌, ◌%◌, ◌==◌, ◌<◌, Bool, false, if◌then◌else◌, List, [], ◌∷◌, ◌++◌, length, take, slice_get, count_by, AllPairs, Option, Some, None}
use Rattle.anf.specs.Polynomials.{set_of}
use Rattle.anf.specs.Keys.{key_of}

-- whether there are variables, and they have the key of others
abbrev pub is_same : List ℕ → Option (List ℕ) → Bool
is_same m None = false
is_same m (Some w) = key_of w == key_of m

-- whether the last of the monomials is the same as another
abbrev pub ends_in : List (List ℕ) → List ℕ → Bool
ends_in ms m = is_same m (slice_get ms (length ms - 1))

-- one monomial more, which cancels the last one where they are the same
abbrev pub with_monomial : List (List ℕ) → List ℕ → List (List ℕ)
with_monomial ms m = if ends_in ms m then take (length ms - 1) ms else ms ++ m ∷ []

-- the keys of monomials rise
abbrev pub HaveRisingKeys : List (List ℕ) → Type 0
HaveRisingKeys ms = AllPairs (λ a b. key_of a < key_of b) ms

-- how often a set arises
abbrev pub times : ℕ → List (List ℕ) → ℕ
times m ms = count_by (λ w. set_of w == m) ms

-- each set arises an odd number of times in both lists, or in neither
abbrev pub HaveSameParities : List (List ℕ) → List (List ℕ) → Type 0
HaveSameParities ms ws = (m : ℕ) → times m ms % 2 ≡ times m ws % 2
