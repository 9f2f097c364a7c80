-- What was so in some state of a run.
use Rattle.std.specs.Prelude.{◌≡◌, ℕ, ◌+◌, ◌≤◌, List, ◌++◌}
use mathlib.Core.Option.{some}
use lib.ListN.{get_elem?}
use Rattle.cover_core.specs.declared.state.View.{View}
use Rattle.cover_core.specs.declared.state.State.{State}
use Rattle.cover_core.specs.declared.kind.Kind.{Kind}
use Rattle.cover_core.specs.Core.{Asked, IsAt}
use Rattle.cover_core.specs.Machine.{IsRun}

-- the run goes through the state: some first steps lead to it, and the others from it to the end
pub record GoesThrough (a : Asked) (steps : List (ℕ × Kind)) (s end state : State) : Type 0 where
  pub first : List (ℕ × Kind)
  pub others : List (ℕ × Kind)
  pub whole : steps ≡ first ++ others
  pub to : IsRun a first s state
  pub from : IsRun a others state end

-- the code stands nowhere in the table
abbrev pub IsAbsent : List ℕ → ℕ → Type 0
IsAbsent words code = (place : ℕ) → IsAt words place code → ⊥

-- the run goes through a state in which the place is empty and the seat's next move has the number
pub record WasEmpty (a : Asked) (steps : List (ℕ × Kind)) (s end : State) (seat place move : ℕ) : Type 0 where
  pub state : State
  pub through : GoesThrough a steps s end state
  pub view : View
  pub at : get_elem? state.views seat ≡ some view
  pub next : view.moves + 1 ≡ move
  pub empty : IsAt state.words place 0

-- the run goes through a state in which the code is not stored, and the seat has made at least so many moves
pub record WasAbsent (a : Asked) (steps : List (ℕ × Kind)) (s end : State) (seat move code : ℕ) : Type 0 where
  pub state : State
  pub through : GoesThrough a steps s end state
  pub view : View
  pub at : get_elem? state.views seat ≡ some view
  pub later : move ≤ view.moves
  pub absent : IsAbsent state.words code

-- the code is not stored in any state that the run goes through
abbrev pub NeverStored : Asked → List (ℕ × Kind) → State → State → ℕ → Type 0
NeverStored a steps s end code = (state : State) → GoesThrough a steps s end state → IsAbsent state.words code
