-- The class of gadgets for which elimination over the randoms decides exactly what is simulatable: the randoms are only
-- added (Belaïd et al., CRYPTO 2020), and no wire is of degree above two in the shares.
use Rattle.std.specs.Prelude.{◌≡◌, ◌≢◌, ℕ, ◌<◌, List, length, Contains, Some, slice_get}
use Rattle.gadget_model.specs.Circuit.{Circuit, nodes, share, random}
use Rattle.gadget_limits.specs.Limits.{most_monomials}
use Rattle.gadget_model.specs.Polynomials.{HasVariable, polynomial}

-- a variable is an input share
abbrev pub IsShare : Circuit → ℕ → Type 0
IsShare g v = (k : ℕ) × (slice_get (nodes g) v ≡ Some (share k))

-- a variable is a random
abbrev pub IsRandom : Circuit → ℕ → Type 0
IsRandom g v = (k : ℕ) × (slice_get (nodes g) v ≡ Some (random k))

-- a monomial has a random and another variable
abbrev pub MultipliesRandom : Circuit → ℕ → Type 0
MultipliesRandom g m = (v : ℕ) × (w : ℕ) × HasVariable m v × IsRandom g v × HasVariable m w × (v ≢ w)

-- a monomial has over two input shares
abbrev pub HasThreeShares : Circuit → ℕ → Type 0
HasThreeShares g m =
    (u : ℕ) × (v : ℕ) × (w : ℕ) × (u < v) × (v < w) × HasVariable m u × IsShare g u × HasVariable m v × IsShare g v
    × HasVariable m w × IsShare g w

-- why a variable is outside the class
pub data Fault : Type 0 where
  too_wide : Fault
  random_product : Fault
  degree : Fault

-- a polynomial has more monomials than are allowed
abbrev pub IsTooWide : List ℕ → Type 0
IsTooWide p = most_monomials < length p

-- some monomial of a polynomial has a random and another variable
abbrev pub HasRandomProduct : Circuit → List ℕ → Type 0
HasRandomProduct g p = (m : ℕ) × Contains p m × MultipliesRandom g m

-- some monomial of a polynomial has over two input shares
abbrev pub HasDegreeAboveTwo : Circuit → List ℕ → Type 0
HasDegreeAboveTwo g p = (m : ℕ) × Contains p m × HasThreeShares g m

-- A variable's polynomial has this fault. Of several, the first counts: its width, then a random in a product, then the
-- degree.
abbrev pub HasFault : Circuit → ℕ → Fault → Type 0
HasFault g v too_wide = IsTooWide (polynomial g v)
HasFault g v random_product = (IsTooWide (polynomial g v) → ⊥) × HasRandomProduct g (polynomial g v)
HasFault g v degree =
    (IsTooWide (polynomial g v) → ⊥) × (HasRandomProduct g (polynomial g v) → ⊥) × HasDegreeAboveTwo g (polynomial g v)

-- a variable has no fault
abbrev pub IsFit : Circuit → ℕ → Type 0
IsFit g v =
    (IsTooWide (polynomial g v) → ⊥) × (HasRandomProduct g (polynomial g v) → ⊥)
    × (HasDegreeAboveTwo g (polynomial g v) → ⊥)

-- the gadget is in the class: no variable has a fault
abbrev pub IsInClass : Circuit → Type 0
IsInClass g = (v : ℕ) → v < length g.variables → IsFit g v

-- the first variable, in order, that has a fault, with its fault
pub record IsFirstFault (g : Circuit) (variable : ℕ) (fault : Fault) : Type 0 where
  pub exists : variable < length g.variables
  pub has : HasFault g variable fault
  pub first : (v : ℕ) → v < variable → IsFit g v
