-- How a list of tuples is held: as their codes, which rise.
use Rattle.std.specs.Prelude.{◌≡◌, ◌↔◌, ◌⊎◌, ◌<◌, ◌≤◌, ℕ, Bool, false, IsTrue, List, Option, Some, None, All, Contains, map, slice_index_or}
use Rattle.tuple_model.specs.Limits.{most_items, most_size}
use Rattle.tuple_model.specs.Tuples.{IsTuple, IsSubset}
use Rattle.tuple_model.specs.Antichains.{IsAntichain}
use Rattle.tuple_order.specs.Codes.{code_of, tuple_of_code}

-- the number is the code of a tuple
pub record IsCode (code : ℕ) : Type 0 where
  pub tuple : IsTuple most_items most_size (tuple_of_code code)
  pub same : code_of (tuple_of_code code) ≡ code

-- the numbers are the codes of an antichain's tuples
pub record AreCodes (codes : List ℕ) : Type 0 where
  pub coded : All IsCode codes
  pub antichain : IsAntichain (map tuple_of_code codes)

-- the item is marked
abbrev pub IsMarked : List Bool → ℕ → Type 0
IsMarked marks item = IsTrue (slice_index_or marks item false)

-- each item of a tuple with one of the codes is marked
abbrev pub AreMarked : List Bool → List ℕ → Type 0
AreMarked marks codes =
    (t : List ℕ) → Contains (map tuple_of_code codes) t → (item : ℕ) → Contains t item → IsMarked marks item

-- how a list is held: its codes, and marks of all items that occur in its tuples
pub record AreHeld (codes : List ℕ) (marks : List Bool) : Type 0 where
  pub held : AreCodes codes
  pub marked : AreMarked marks codes

-- the least number that stands in both lists, where there is one
abbrev pub IsLeastOfBoth : List ℕ → List ℕ → Option ℕ → Type 0
IsLeastOfBoth xs ys None = (n : ℕ) → Contains xs n → Contains ys n → ⊥
IsLeastOfBoth xs ys (Some least) =
    Contains xs least × Contains ys least × ((n : ℕ) → Contains xs n → Contains ys n → least ≤ n)

-- the number is lower than the other, where there is another
abbrev pub IsLower : ℕ → Option ℕ → Type 0
IsLower n None = Unit {0}
IsLower n (Some other) = n < other

-- the code is that of no superset of the tuple
abbrev pub IsNoSuperset : List ℕ → ℕ → Type 0
IsNoSuperset t code = IsSubset t (tuple_of_code code) → ⊥

-- no tuple with one of the codes is a proper subset of that with the code
abbrev pub NoneWithin : List ℕ → ℕ → Type 0
NoneWithin codes code = (n : ℕ) → Contains codes n → IsSubset (tuple_of_code n) (tuple_of_code code) → n ≡ code

-- beside the codes that it had, the list has those of one list that no code of the other is within
abbrev pub Gains : List ℕ → List ℕ → List ℕ → List ℕ → Type 0
Gains before codes others after =
    (n : ℕ) → Contains after n ↔ (Contains before n ⊎ (Contains codes n × NoneWithin others n))
