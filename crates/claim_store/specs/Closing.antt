-- What a store holds at its end.
use Rattle.std.specs.Prelude.{◌≡◌, ◌≢◌, ◌↔◌, ◌⊎◌, ℕ, suc, ◌^◌, ◌<◌, ◌≤◌, List, [], length, Contains}
use mathlib.Core.Option.{some}
use lib.ListN.{get_elem?}
use Rattle.tuple_model.specs.Limits.{most_items, most_size}
use Rattle.tuple_model.specs.Tuples.{IsTuple, IsSubset, subset}
use Rattle.tuple_model.specs.Minimal.{IsAnswer}
use Rattle.tuple_model.specs.Antichains.{Covers, IsAntichain}
use Rattle.tuple_order.specs.Codes.{code_of}
use Rattle.cover_core.specs.declared.state.View.{View}
use Rattle.cover_core.specs.Core.{Asked, Has, total_of}

-- what clauses see of a closed store
pub record ClosedSeen : Type 0 where
  pub live : List (List ℕ)
  pub cursor : ℕ
  pub words : ℕ

-- a tuple that is a subset of the other, with its code at one of the first places of the table, after the cursor
pub record HasWordWithin (words : List ℕ) (places : ℕ) (t : List ℕ) : Type 0 where
  pub tuple : List ℕ
  pub fits : IsTuple most_items most_size tuple
  pub place : ℕ
  pub below : place < places
  pub at : get_elem? words (suc place) ≡ some (code_of tuple)
  pub subset : IsSubset tuple t

-- a tuple with the code is a subset of the other
pub record IsCodeWithin (code : ℕ) (t : List ℕ) : Type 0 where
  pub tuple : List ℕ
  pub fits : IsTuple most_items most_size tuple
  pub coded : code_of tuple ≡ code
  pub subset : IsSubset tuple t

-- the list covers what it covered, and what the tuple with the code covers
abbrev pub CoversCode : List (List ℕ) → ℕ → List (List ℕ) → Type 0
CoversCode before code after = (t : List ℕ) → Covers after t ↔ (Covers before t ⊎ IsCodeWithin code t)

-- the list has just the words at the first places of the table, after the cursor, that aren't 0
abbrev pub HasWords : List ℕ → ℕ → List ℕ → Type 0
HasWords words places codes =
    (word : ℕ) → Contains codes word ↔ ((word ≢ 0) × ((place : ℕ) × (place < places) × (get_elem? words (suc place) ≡ some word)))

-- the list covers what the tuples with these codes cover
abbrev pub CoversCodes : List ℕ → List (List ℕ) → Type 0
CoversCodes codes live =
    (t : List ℕ) → Covers live t ↔ ((s : List ℕ) × IsTuple most_items most_size s × Contains codes (code_of s) × IsSubset s t)

-- the list covers what the tuples of these words cover
abbrev pub CoversWords : List ℕ → ℕ → List (List ℕ) → Type 0
CoversWords words places live = (t : List ℕ) → Covers live t ↔ HasWordWithin words places t

-- the tuple's code is among the made ones
abbrev pub IsMade : List ℕ → List ℕ → Type 0
IsMade made t = IsTuple most_items most_size t × Has (code_of t) made

-- the tuple is one of the made ones, and none of its proper subsets is
abbrev pub IsLeastMade : List ℕ → List ℕ → Type 0
IsLeastMade made t = IsMade made t × ((k : ℕ) → suc k < 2 ^ length t → IsMade made (subset k t) → ⊥)

-- What a store held at its end, by what its last pass knows: the list has exactly the made tuples of which no proper
-- subset was made. Where no range was open and the cursor is the total, it is the list of all minimal failing tuples.
pub record Ends (a : Asked) (width : ℕ) (v : View) (c : ClosedSeen) : Type 0 where
  pub low : v.cursor ≤ c.cursor
  pub most : c.cursor ≤ total_of a
  pub words : c.words ≡ width
  pub antichain : IsAntichain c.live
  pub live : (t : List ℕ) → Contains c.live t ↔ IsLeastMade v.made t
  pub answer : v.held ≡ [] → c.cursor ≡ total_of a → IsAnswer a.Fails a.items a.size c.live
