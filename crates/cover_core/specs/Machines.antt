-- The machine as the program has it, seen as a state, and whether it takes a step.
use Rattle.std.specs.Prelude.{◌≡◌, ◌^◌, ℕ, ◌<◌, Bool, true, false}
use Rattle.cover_core.specs.declared.state.View.{View}
use Rattle.cover_core.specs.declared.state.State.{State}
use Rattle.cover_core.specs.declared.kind.Kind.{Kind}
use Rattle.cover_core.specs.declared.machine.Machine.{Machine}
use Rattle.cover_core.specs.Core.{Asked, Each}
use Rattle.cover_core.specs.Machine.{Allowed, after}

-- the state that the machine is in
abbrev pub state_of : Machine → State
state_of m = record { cursor = m.cursor; words = m.words.items; views = m.views.items }

-- the step is taken exactly where it is allowed, and then leads to the state after it
abbrev pub Takes : Asked → State → ℕ → Kind → Bool → State → Type 0
Takes a s seat kind taken end = (taken ≡ true → Allowed a s seat kind × (end ≡ after s seat kind)) × (taken ≡ false → Allowed a s seat kind → ⊥)

-- each seat took fewer than so many steps
abbrev pub FewMoves : ℕ → State → Type 0
FewMoves n s = Each (λ v. v.moves < n) s.views
