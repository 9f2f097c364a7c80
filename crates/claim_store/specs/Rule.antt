-- The rule of the table: the core's facts over the words and the views; and what each move tells.
use Rattle.std.specs.Prelude.{◌≡◌, ◌≢◌, ℕ, ◌+◌, ◌<◌, ◌≤◌, Option, Some, None, List, [], ◌∷◌, map, length}
use mathlib.Core.Option.{some}
use lib.ListN.{get_elem?}
use Rattle.atomic_table.specs.Table.{Me, Step}
use Rattle.atomic_table.specs.Table as table
use Rattle.tuple_model.specs.Tuples.{HasRank, tuples}
use Rattle.tuple_order.specs.Codes.{code_of}
use Rattle.cover_core.specs.declared.state.View.{View}
use Rattle.cover_core.specs.declared.state.State.{State}
use Rattle.cover_core.specs.Core.{Asked, CoreOk, Fits, ListsRise, ManyFail, Saw, path, times, total_of}
use Rattle.cover_core.specs.Effects.{knows, opens, looks, publishes, settles, split_left, split_right, joins, spent, PassedBy}
use Rattle.claim_store.specs.declared.rule.Doing.{Doing}
use Rattle.claim_store.specs.declared.rule.Facts.{Facts}

-- what a move says: a range, or how many parts
abbrev pub Said : Type 0
Said = ℕ × ℕ

module _ {Q : Type 0} where
  -- what a seat has as its view in the table
  abbrev pub doing : Option (Facts Q) → ℕ → View → Doing Q
  doing facts giving view = record { facts = facts; giving = giving; view = view }

  -- the core's part of it
  abbrev pub view_of : Doing Q → View
  view_of d = d.view

  -- the core's state, from a table's words and views
  abbrev pub state_of : ℕ → List ℕ → List (Doing Q) → State
  state_of cursor words views = record { cursor = cursor; words = words; views = map view_of views }

  -- each view that is not spent names the query
  abbrev pub EachNames : Facts Q → List (Doing Q) → Type 0
  EachNames key views = (seat : ℕ) (d : Doing Q) → get_elem? views seat ≡ some d → 0 < d.view.parts → d.facts ≡ Some key

  -- the first word is the cursor, the others are the table
  abbrev pub RowOk : Asked → Facts Q → List ℕ → List (Doing Q) → Type 0
  RowOk a key [] views = ⊥
  RowOk a key (cursor ∷ words) views = CoreOk a (state_of cursor words views) × EachNames key views
      × (length words ≡ key.width)

  -- what stands at the place agrees with what the seat has seen
  pub record Agrees (key : Facts Q) (v : View) (place word : ℕ) : Type 0 where
    pub seen : (code : ℕ) → Saw place code v → word ≡ code
    pub before : (code k j : ℕ) → code ≢ 0 → k < key.width → j < k → path key.width code j ≡ place →
        Saw (path key.width code k) code v → (word ≢ 0) × (word ≢ code)
    pub inside : (q code : ℕ) → Saw q code v → q < key.width

-- what a full table tells of the question: as many tuples fail as it has words, and there are more than that
pub record IsTight (a : Asked) (width : ℕ) : Type 0 where
  pub failing : ManyFail a width
  pub tuples : width < total_of a

-- where the view has seen another code at each place of the path, the table is full
abbrev pub Tight : Asked → ℕ → View → ℕ → Type 0
Tight a width v code = (t : List ℕ) (rank : ℕ) → HasRank a.items a.size t rank → code_of t ≡ code →
    PassedBy width code width v → IsTight a width

-- The codes that the view has seen are those of failing tuples of the question, each seen at one place, and no list
-- of the view holds anything twice.
pub record IsSound (a : Asked) (v : View) : Type 0 where
  pub failing : (place code : ℕ) → Saw place code v → Fits a (total_of a) code
  pub apart : (place other code : ℕ) → Saw place code v → Saw other code v → place ≡ other
  pub lists : ListsRise v

-- the number of the tuples of a query
abbrev pub full : {Q : Type 0} → (Q → ℕ) → (Q → ℕ) → Q → ℕ
full items size q = length (tuples (items q) (size q))

module _ {Q : Type 0} (items size : Q → ℕ) (Fails : Q → List ℕ → Type 0) where
  -- what the store is asked
  abbrev pub asked : Facts Q → Asked
  asked key = record { items = items key.query.value; size = size key.query.value; Fails = Fails key.query.value }

  -- what always holds of the table
  abbrev pub StoreOk : Facts Q → table.State Said (Doing Q) → Type 0
  StoreOk key s = RowOk (asked key) key s.words s.views

  -- the move leaves the query's name and the slots, and what the seat knows is sound
  pub record Same (m m' : Me Said (Doing Q)) : Type 0 where
    pub facts : m'.0.facts ≡ m.0.facts
    pub slots : m'.1 ≡ m.1
    pub sound : (key : Facts Q) → m.0.facts ≡ Some key → IsSound (asked key) m'.0.view

  -- the cursor is no less than the seat knew, and no more than there are tuples
  abbrev pub Bounded : Me Said (Doing Q) → ℕ → Type 0
  Bounded m n = (m.0.view.cursor ≤ n) × ((key : Facts Q) → m.0.facts ≡ Some key → n ≤ full items size key.query.value)

  -- the seat says how many parts it is to give, and sees the cursor
  abbrev pub intends : Step Said → Me Said (Doing Q) → ℕ → Me Said (Doing Q) → Type 0
  intends st m n m' = Same m m' × Bounded m n × ((x : Said) → st.said ≡ some x → m'.0.giving ≡ x.0)
      × (m'.0.view ≡ knows n m.0.view)

  -- the seat sees the cursor
  abbrev pub saw_cursor : Step Said → Me Said (Doing Q) → ℕ → Me Said (Doing Q) → Type 0
  saw_cursor st m n m' = Same m m' × Bounded m n × (m'.0.view ≡ knows n m.0.view)

  -- the cursor was where the seat knew it and has moved, or the seat sees where it is
  abbrev pub claimed : Step Said → Me Said (Doing Q) → ℕ → Me Said (Doing Q) → Type 0
  claimed st m n m' = Same m m' × Bounded m n × (n ≡ st.first → m'.0.view ≡ opens st.second m.0.view)
      × (n ≢ st.first → m'.0.view ≡ knows n m.0.view)

  -- what is stored is the code of a failing tuple of the query
  abbrev pub Sound : Me Said (Doing Q) → ℕ → Type 0
  Sound m code = (key : Facts Q) → m.0.facts ≡ Some key → code ≢ 0 →
      Fits (asked key) (full items size key.query.value) code

  -- what the place has agrees with what the seat has seen
  abbrev pub Told : Me Said (Doing Q) → ℕ → ℕ → Type 0
  Told m place word = (key : Facts Q) → m.0.facts ≡ Some key → Agrees key m.0.view place word

  -- the seat sees the word at a place
  abbrev pub saw_place : Step Said → Me Said (Doing Q) → ℕ → Me Said (Doing Q) → Type 0
  saw_place st m c m' = Same m m' × Sound m c
      × ((p : ℕ) → st.word ≡ p + 1 → (m'.0.view ≡ looks p c m.0.view) × Told m p c)

  -- the place was empty and has the code now, or it wasn't
  abbrev pub stored : Step Said → Me Said (Doing Q) → ℕ → Me Said (Doing Q) → ℕ → Type 0
  stored st m c m' p =
      (c ≡ 0 → (m'.0.view ≡ publishes p st.second m.0.view) × (times st.second m.0.view.made ≡ 0))
      × (c ≢ 0 → (m'.0.view ≡ looks p c m.0.view)
      × ((key : Facts Q) → m.0.facts ≡ Some key → Tight (asked key) key.width m'.0.view st.second))

  -- the seat stores a code where the place is empty
  abbrev pub published : Step Said → Me Said (Doing Q) → ℕ → Me Said (Doing Q) → Type 0
  published st m c m' = Same m m' × ((p : ℕ) → st.word ≡ p + 1 → stored st m c m' p)

  -- the seat gives up the range that it says
  abbrev pub settled : Step Said → Me Said (Doing Q) → ℕ → Me Said (Doing Q) → Type 0
  settled st m n m' = Same m m' × Bounded m n × ((x : Said) → st.said ≡ some x → m'.0.view ≡ settles x n m.0.view)

module _ {Q : Type 0} where
  -- a seat that is cut in two: one keeps all parts but those that it is to give
  abbrev pub cut_left : Doing Q → Doing Q
  cut_left d = doing d.facts 0 (split_left d.giving d.view)

  -- the other has these, and has seen the same
  abbrev pub cut_right : Doing Q → Doing Q
  cut_right d = doing d.facts 0 (split_right d.giving d.view)

  -- two seats in one
  abbrev pub glued : Doing Q → Doing Q → Doing Q
  glued d e = doing d.facts 0 (joins d.view e.view)

  -- a seat that was joined into another
  abbrev pub nobody : Doing Q
  nobody = doing None 0 spent
