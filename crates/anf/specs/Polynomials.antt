-- What the calls on polynomials answer, as sets of monomials. A monomial is the set of its variables, as a number:
-- variable v is in it where its bit v is 1.
use Rattle.std.specs.Prelude.{◌≢◌, ◌↔◌, ℕ, ◌^◌, ◌<◌, List, [], ◌∷◌, AllPairs, Contains, All, bit_or}
use Rattle.gadget_model.specs.Polynomials.{HasVariable}

-- a polynomial has each monomial of a list once, and no other
pub record IsSetOf (monomials p : List ℕ) : Type 0 where
  pub same : (m : ℕ) → Contains p m ↔ Contains monomials m
  pub once : AllPairs (λ a b. a ≢ b) p

-- a monomial has three variables or more
abbrev pub HasThreeVariables : ℕ → Type 0
HasThreeVariables m =
    (u : ℕ) × (v : ℕ) × (w : ℕ) × (u < v) × (v < w) × HasVariable m u × HasVariable m v × HasVariable m w

-- each monomial has at most two variables
abbrev pub HasFewVariables : List ℕ → Type 0
HasFewVariables p = All (λ m. HasThreeVariables m → ⊥) p

-- some monomial has a variable
abbrev pub Occurs : List ℕ → ℕ → Type 0
Occurs p v = (m : ℕ) × Contains p m × HasVariable m v

-- the set of some variables
abbrev pub set_of : List ℕ → ℕ
set_of [] = 0
set_of (v ∷ vs) = bit_or (2 ^ v) (set_of vs)
