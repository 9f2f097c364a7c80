-- What clauses see of a store and of a pass.
use Rattle.std.specs.Prelude.{◌≡◌, ℕ, ◌+◌, ◌*◌, ◌^◌, ◌<◌, ◌≤◌, Option, Some, List}
use Rattle.atomic_table.specs.Seated.{TableId}
use Rattle.tuple_model.specs.Limits.{most_items, most_size}
use Rattle.cover_core.specs.declared.state.View.{View}
use Rattle.cover_core.specs.Core.{Has}
use Rattle.cover_core.specs.Effects.{put_pair, put_number, Fresh, Shows}
use Rattle.claim_store.specs.Rule.{asked, full, IsSound}
use Rattle.claim_store.specs.declared.rule.Facts.{Facts}

-- what clauses see of a store: its query and its number of words, and which table it is
pub record StoreSeen (Q : Type 0) : Type 0 where
  pub facts : Facts Q
  pub table : TableId

-- what clauses see of a pass: which seat of which table it is, its query, and what it knows
pub record PassSeen (Q : Type 0) : Type 0 where
  pub table : TableId
  pub number : ℕ
  pub facts : Option (Facts Q)
  pub giving : ℕ
  pub view : View

-- what a store's fields have to do with each other
pub record IsStore {Q : Type 0} (items size : Q → ℕ) (facts : Facts Q) (table : TableId)
    (total width shift : ℕ) : Type 0 where
  pub total_is : total ≡ full items size facts.query.value
  pub words : table.words ≡ width + 1
  pub slots : table.slots ≡ 0
  pub some : 0 < width
  pub small : width < 2 ^ 32
  pub width_is : facts.width ≡ width
  pub shift_small : shift < 64
  pub shift_is : 2 ^ shift * width ≡ 2 ^ 64
  pub items_few : items facts.query.value ≤ most_items
  pub size_small : size facts.query.value ≤ most_size

-- the store made the pass, and it is not spent
pub record IsSeatOf {Q : Type 0} (s : StoreSeen Q) (p : PassSeen Q) : Type 0 where
  pub table : p.table ≡ s.table
  pub facts : p.facts ≡ Some s.facts
  pub some_parts : 0 < p.view.parts
  pub fresh : Fresh p.view

-- the store made the pass, it is not spent, and what it has seen are failing tuples of the query, each at one place
pub record IsPassOf {Q : Type 0} (items size : Q → ℕ) (Fails : Q → List ℕ → Type 0)
    (s : StoreSeen Q) (p : PassSeen Q) : Type 0 where
  pub seat : IsSeatOf s p
  pub sound : IsSound (asked items size Fails s.facts) p.view

-- moves of the seat that changed no more than its cursor
pub record OnlyCursor (v w : View) : Type 0 where
  pub parts : w.parts ≡ v.parts
  pub held : w.held ≡ v.held
  pub seen : w.seen ≡ v.seen
  pub made : w.made ≡ v.made
  pub bare : w.bare ≡ v.bare
  pub cursor : v.cursor ≤ w.cursor
  pub moves : v.moves ≤ w.moves

-- the cursor was found at the total, by a move after the view v, which changed no more than the cursor
pub record FoundTotal (total : ℕ) (v w : View) : Type 0 where
  pub only : OnlyCursor v w
  pub cursor : w.cursor ≡ total
  pub moved : v.moves < w.moves

-- moves of the seat that changed no more than its cursor, and the range was opened where the cursor was
pub record Opened (v w : View) (x : ℕ × ℕ) : Type 0 where
  pub parts : w.parts ≡ v.parts
  pub held : w.held ≡ put_pair x v.held
  pub seen : w.seen ≡ v.seen
  pub made : w.made ≡ v.made
  pub bare : w.bare ≡ v.bare
  pub from : v.cursor ≤ x.0
  pub some : x.0 < x.1
  pub cursor : w.cursor ≡ x.1
  pub moves : v.moves < w.moves

-- the seat has looked, and the code was published
pub record Published (width : ℕ) (v w : View) (code : ℕ) : Type 0 where
  pub parts : w.parts ≡ v.parts
  pub held : w.held ≡ v.held
  pub made : w.made ≡ put_number code v.made
  pub cursor : v.cursor ≤ w.cursor
  pub moves : v.moves ≤ w.moves
  pub seen : (x : ℕ × ℕ) → Has x v.seen → Has x w.seen
  pub shows : Shows width v w
