-- A reader of expressions that goes once through the symbols, with a stack.
use Rattle.std.specs.Prelude.{ℕ, Bool, true, false, if◌then◌else◌, List, [], ◌∷◌, ◌++◌, Option, Some, None, option_and_then}
use Rattle.gadget_grammar.specs.declared.level.Level.{Level}
use Rattle.gadget_text.specs.Names.{is_name}
use Rattle.gadget_grammar.specs.Symbols.{Symbol, word, equals, plus, times, opening, closing}
use Rattle.gadget_grammar.specs.Steps.{NamedStep, name, sum, product}

-- how far an expression is read
pub record State : Type 0 where
  pub steps : List NamedStep
  -- the levels around the innermost parentheses, the innermost first
  pub outer : List Level
  pub here : Level
  -- whether a unit stands last
  pub has_unit : Bool

-- nothing waits at a level
abbrev pub empty : Level
empty = record { sum = false; product = false }

-- the steps, and after them one that waits
abbrev pub with_waiting : Bool → NamedStep → List NamedStep → List NamedStep
with_waiting waits step steps = if waits then steps ++ step ∷ [] else steps

-- the steps, and after them all that waits at a level
abbrev pub with_level : Level → List NamedStep → List NamedStep
with_level level steps = with_waiting level.sum sum (with_waiting level.product product steps)

-- after a closing parenthesis the level around it goes on
abbrev pub after_closing : List NamedStep → List Level → Option State
after_closing steps [] = None
after_closing steps (level ∷ outer) = Some (record { steps = steps; outer = outer; here = level; has_unit = true })

-- where a unit is wanted, only a name and an opening parenthesis are right
abbrev pub next_before_unit : List NamedStep → List Level → Level → Symbol → Option State
next_before_unit steps outer here (word w) =
    if is_name w then Some (record { steps = steps ++ name w ∷ []; outer = outer; here = here; has_unit = true })
    else None
next_before_unit steps outer here opening =
    Some (record { steps = steps; outer = here ∷ outer; here = empty; has_unit = false })
next_before_unit steps outer here symbol = None

-- after a unit, only `+`, `*` and a closing parenthesis are right
abbrev pub next_behind_unit : List NamedStep → List Level → Level → Symbol → Option State
next_behind_unit steps outer here plus =
    let waits : Level = record { sum = true; product = false } in
    Some (record { steps = with_level here steps; outer = outer; here = waits; has_unit = false })
next_behind_unit steps outer here times =
    let waits : Level = record { sum = here.sum; product = true } in
    Some (record { steps = with_waiting here.product product steps; outer = outer; here = waits; has_unit = false })
next_behind_unit steps outer here closing = after_closing (with_level here steps) outer
next_behind_unit steps outer here symbol = None

-- the state after one more symbol, where that is right here
abbrev pub next_state : State → Symbol → Option State
next_state s symbol =
    if s.has_unit then next_behind_unit s.steps s.outer s.here symbol
    else next_before_unit s.steps s.outer s.here symbol

-- the steps, where the expression may end
abbrev pub final_steps_at : List NamedStep → List Level → Level → Bool → Option (List NamedStep)
final_steps_at steps [] here true = Some (with_level here steps)
final_steps_at steps outer here has_unit = None

-- the steps of a state, where the expression may end
abbrev pub final_steps : State → Option (List NamedStep)
final_steps s = final_steps_at s.steps s.outer s.here s.has_unit

-- the steps of the expression that symbols complete
abbrev pub steps_from : State → List Symbol → Option (List NamedStep)
steps_from s [] = final_steps s
steps_from s (symbol ∷ symbols) = option_and_then (λ next. steps_from next symbols) (next_state s symbol)

-- nothing is read
abbrev pub initial_state : State
initial_state = record { steps = []; outer = []; here = empty; has_unit = false }

-- the name on the left side, where a line begins with a name and `=`
abbrev pub left_name : List Symbol → Option (List ℕ)
left_name (word w ∷ equals ∷ symbols) = if is_name w then Some w else None
left_name symbols = None
