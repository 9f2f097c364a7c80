-- Sets of items as strictly rising lists of item numbers, called tuples; their order, the list of all, and their
-- subsets.
use Rattle.std.specs.Prelude.{◌≡◌, ℕ, zero, suc, ◌%◌, ◌/◌, ◌<◌, ◌≤◌, ◌⊎◌, ◌==◌, if◌then◌else◌, List, [], ◌∷◌, ◌++◌, map, length, slice_get, Some, Contains}

-- the numbers rise strictly, from low on and below high
abbrev pub IsRising : ℕ → ℕ → List ℕ → Type 0
IsRising low high [] = Unit {0}
IsRising low high (x ∷ xs) = (low ≤ x) × (x < high) × IsRising (suc x) high xs

-- a tuple of at most `size` items, each of them below `items`
pub record IsTuple (items size : ℕ) (t : List ℕ) : Type 0 where
  pub short : length t ≤ size
  pub rising : IsRising 0 items t

-- of two lists of one length, the first comes first in lexicographic order
abbrev pub ComesFirst : List ℕ → List ℕ → Type 0
ComesFirst [] ys = ⊥
ComesFirst (x ∷ xs) [] = ⊥
ComesFirst (x ∷ xs) (y ∷ ys) = (x < y) ⊎ ((x ≡ y) × ComesFirst xs ys)

-- tuples are ordered by size, and then lexicographically
abbrev pub IsBefore : List ℕ → List ℕ → Type 0
IsBefore s t = (length s < length t) ⊎ ((length s ≡ length t) × ComesFirst s t)

-- the rising lists of exactly `size` of the `room` numbers from `low` on, in lexicographic order
abbrev pub rising : ℕ → ℕ → ℕ → List (List ℕ)
rising zero room low = [] ∷ []
rising (suc size) zero low = []
rising (suc size) (suc room) low = map (λ t. low ∷ t) (rising size room (suc low)) ++ rising (suc size) room (suc low)

-- all tuples of at most `size` of the items, in order
abbrev pub tuples : ℕ → ℕ → List (List ℕ)
tuples items zero = rising zero items 0
tuples items (suc size) = tuples items size ++ rising (suc size) items 0

-- the rank of a tuple is its place in this list
abbrev pub HasRank : ℕ → ℕ → List ℕ → ℕ → Type 0
HasRank items size t rank = slice_get (tuples items size) rank ≡ Some t

-- the subset of a tuple with a number: it keeps the item at place j exactly where bit j of the number is set
abbrev pub subset : ℕ → List ℕ → List ℕ
subset k [] = []
subset k (a ∷ t) = if k % 2 == 1 then a ∷ subset (k / 2) t else subset (k / 2) t

-- the items of the first tuple are all among those of the second
abbrev pub IsSubset : List ℕ → List ℕ → Type 0
IsSubset s t = (item : ℕ) → Contains s item → Contains t item
