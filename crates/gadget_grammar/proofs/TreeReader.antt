-- The reader that keeps trees in place of steps.
use Rattle.std.specs.Prelude.{if◌then◌else◌, List, [], ◌∷◌, Option, Some, None, option_and_then}
use Rattle.gadget_text.specs.Names.{is_name}
use Rattle.gadget_grammar.specs.Symbols.{Symbol, word, plus, times, opening, closing}
use Rattle.gadget_grammar.specs.Grammar.{Tree, named, parens, sum_of, product_of}

-- the left sides that wait at a level of parentheses
pub record TreeLevel : Type 0 where
  pub sum : Option Tree
  pub product : Option Tree

-- how far an expression is read
pub record TreeState : Type 0 where
  pub outer : List TreeLevel
  pub here : TreeLevel
  pub unit : Option Tree

-- no left side waits
abbrev pub nothing : TreeLevel
nothing = record { sum = None; product = None }

-- a right side, with its left side where one waits
abbrev pub with_left : (Tree → Tree → Tree) → Option Tree → Tree → Tree
with_left operation None t = t
with_left operation (Some a) t = operation a t

-- a unit, with all that waits at a level
abbrev pub whole : TreeLevel → Tree → Tree
whole level u = with_left sum_of level.sum (with_left product_of level.product u)

-- what was in parentheses is a unit of the level around
abbrev pub after_closing : Tree → List TreeLevel → Option TreeState
after_closing t [] = None
after_closing t (level ∷ outer) = Some (record { outer = outer; here = level; unit = Some (parens t) })

-- where a unit is wanted
abbrev pub next_before_unit : List TreeLevel → TreeLevel → Symbol → Option TreeState
next_before_unit outer here (word w) = if is_name w then Some (record { outer = outer; here = here; unit = Some (named w) }) else None
next_before_unit outer here opening = Some (record { outer = here ∷ outer; here = nothing; unit = None })
next_before_unit outer here symbol = None

-- after a unit
abbrev pub next_behind_unit : List TreeLevel → TreeLevel → Tree → Symbol → Option TreeState
next_behind_unit outer here u plus = Some (record { outer = outer; here = record { sum = Some (whole here u); product = None }; unit = None })
next_behind_unit outer here u times = Some (record { outer = outer; here = record { sum = here.sum; product = Some (with_left product_of here.product u) }; unit = None })
next_behind_unit outer here u closing = after_closing (whole here u) outer
next_behind_unit outer here u symbol = None

-- one symbol more
abbrev pub next_state_at : List TreeLevel → TreeLevel → Option Tree → Symbol → Option TreeState
next_state_at outer here None symbol = next_before_unit outer here symbol
next_state_at outer here (Some u) symbol = next_behind_unit outer here u symbol

-- the same of a state
abbrev pub next_state : TreeState → Symbol → Option TreeState
next_state s symbol = next_state_at s.outer s.here s.unit symbol

-- the tree, where the expression may end
abbrev pub final_tree_at : List TreeLevel → TreeLevel → Option Tree → Option Tree
final_tree_at [] here (Some u) = Some (whole here u)
final_tree_at outer here unit = None

-- the same of a state
abbrev pub final_tree : TreeState → Option Tree
final_tree s = final_tree_at s.outer s.here s.unit

-- the tree that symbols complete
abbrev pub tree_from : TreeState → List Symbol → Option Tree
tree_from s [] = final_tree s
tree_from s (symbol ∷ symbols) = option_and_then (λ next. tree_from next symbols) (next_state s symbol)

-- nothing is read
abbrev pub initial_tree_state : TreeState
initial_tree_state = record { outer = []; here = nothing; unit = None }
