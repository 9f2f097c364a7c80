-- Monomials as they are stored, each as the list of its variables, and what a list of them keeps to.
use Rattle.std.specs.Prelude.{◌≡◌, ℕ, ◌<◌, ◌≤◌, List, map, length, All, AllPairs}
use Rattle.std.specs.List.{AllZip}
use Rattle.std.specs.List.Sorted.{IsStrictlyIncreasing}
use Rattle.std.specs.Cmp.Lexicographic.{slice_cmp}
use Rattle.std.specs.Ordering.{nat_cmp}
use Rattle.std.specs.declared.cmp.Ordering.TheVariants.{Less}
use Rattle.smallvec.specs.SmallVec.{SmallVec}
use Rattle.gadget_limits.specs.Limits.{most_monomials}
use Rattle.anf.specs.Polynomials.{set_of}

-- the monomials as sets
abbrev pub sets_of : List (SmallVec ℕ) → List ℕ
sets_of ms = map (λ m. set_of m.items) ms

-- the monomials as the lists of their variables
abbrev pub lists_of : List (SmallVec ℕ) → List (List ℕ)
lists_of ms = map (λ m. m.items) ms

-- the variables of a monomial rise
abbrev pub IsSortedMonomial : SmallVec ℕ → Type 0
IsSortedMonomial m = IsStrictlyIncreasing m.items

-- A monomial has at most this many variables.
abbrev pub most_in_monomial : ℕ
most_in_monomial = 4

-- a monomial has few enough variables
abbrev pub IsSmall : SmallVec ℕ → Type 0
IsSmall m = length m.items ≤ most_in_monomial

-- the variables of each monomial rise
abbrev pub AreRising : List (SmallVec ℕ) → Type 0
AreRising ms = All IsSortedMonomial ms

-- each monomial has a variable
abbrev pub AreFilled : List (SmallVec ℕ) → Type 0
AreFilled ms = All (λ m. 0 < length m.items) ms

-- each monomial has few enough variables
abbrev pub AreSmall : List (SmallVec ℕ) → Type 0
AreSmall ms = All IsSmall ms

-- each monomial has at most two variables
abbrev pub ArePairs : List (SmallVec ℕ) → Type 0
ArePairs ms = All (λ m. length m.items ≤ 2) ms

-- what the variables of a monomial keep to that may be multiplied: they rise, and are one or two
pub record IsFactor (variables : List ℕ) : Type 0 where
  pub rising : IsStrictlyIncreasing variables
  pub some : 0 < length variables
  pub few : length variables ≤ 2

-- the variables of each monomial keep to it
abbrev pub AreFactors : List (SmallVec ℕ) → Type 0
AreFactors ms = All (λ m. IsFactor m.items) ms

-- each monomial comes before the later ones in lexicographic order
abbrev pub AreInOrder : List (SmallVec ℕ) → Type 0
AreInOrder ms = AllPairs (λ a b. slice_cmp nat_cmp a.items b.items ≡ Less) ms

-- each monomial has the variables of the one at its place
abbrev pub AreCopies : List (SmallVec ℕ) → List (SmallVec ℕ) → Type 0
AreCopies ms ws = AllZip (λ (m w : SmallVec ℕ). w.items ≡ m.items) ms ws

-- what the monomials of a polynomial keep to
pub record IsPoly (ms : List (SmallVec ℕ)) : Type 0 where
  pub rising : AreRising ms
  pub filled : AreFilled ms
  pub small : AreSmall ms
  pub sorted : AreInOrder ms
  pub few : length ms ≤ most_monomials
