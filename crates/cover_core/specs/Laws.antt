-- Words for the laws of the machine.
use Rattle.std.specs.Prelude.{◌≡◌, ◌≢◌, ◌↔◌, ℕ, ◌≤◌, ◌⊎◌, List}
use mathlib.Core.Option.{some}
use lib.ListN.{get_elem?}
use Rattle.cover_core.specs.declared.state.View.{View}
use Rattle.cover_core.specs.declared.state.State.{State}
use Rattle.cover_core.specs.declared.kind.Kind.{Kind}
use Rattle.cover_core.specs.Core.{Asked, CoreOk, Has, IsAt}
use Rattle.cover_core.specs.Machine.{Allowed, after}

-- the seat has the view
abbrev pub HasView : State → ℕ → View → Type 0
HasView s seat v = get_elem? s.views seat ≡ some v

-- A step of the kind, by whichever seat may take it, leads from each state in which all that always holds holds to one
-- in which it does.
abbrev pub Keeps : Asked → Kind → Type 0
Keeps a kind = (s : State) (seat : ℕ) → CoreOk a s → Allowed a s seat kind → CoreOk a (after s seat kind)

-- the code stands in the table
abbrev pub StandsIn : List ℕ → ℕ → Type 0
StandsIn words code = (code ≢ 0) × ((place : ℕ) × IsAt words place code)

-- the first list has the elements of the other two, and no others
abbrev pub HasBoth : {X : Type 0} → List X → List X → List X → Type 0
HasBoth {X} all xs ys = (x : X) → Has x all ↔ (Has x xs ⊎ Has x ys)

-- no number of a move that is noted for an empty place is above a bound
abbrev pub NotedBy : ℕ → View → Type 0
NotedBy move v = (x : ℕ × ℕ) → Has x v.bare → x.1 ≤ move
