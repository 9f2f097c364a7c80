-- What an assignment line says.
use Rattle.std.specs.Prelude.{◌≡◌, ◌⊎◌, ℕ, List, Result, Ok, Err}
use Rattle.gadget_text.specs.declared.file_error.FileError.{FileError}
use Rattle.gadget_text.specs.declared.file_error.FileError.TheVariants.{Syntax, TooMany}
use Rattle.gadget_text.specs.declared.file_error.What.TheVariants.{Nesting}
use Rattle.gadget_text.specs.Errors.{◌>>=◌}
use Rattle.gadget_text.specs.Tokens.{Lexeme, TokenLine}
use Rattle.gadget_grammar.specs.Grammar.{Tree, IsAssignment}
use Rattle.gadget_grammar.specs.Nesting.{IsTooDeep}
use Rattle.gadget_grammar.specs.Steps.{NamedStep, postfix}

-- a name, and the tree that is assigned to it
pub record Assigned : Type 0 where
  pub name : List ℕ
  pub tree : Tree

-- the tokens assign no tree to any name
abbrev pub IsNoAssignment : List Lexeme → Type 0
IsNoAssignment lexemes = (name : List ℕ) (tree : Tree) → IsAssignment lexemes name tree → ⊥

-- What an assignment line says: parentheses are nested too deep in it; or they aren't, and it is no assignment; or it
-- assigns a tree to a name.
abbrev pub AssignmentSays : TokenLine → Result Assigned FileError → Type 0
AssignmentSays line r =
    (IsTooDeep line.lexemes × (r ≡ Err (TooMany Nesting)))
    ⊎ ((IsTooDeep line.lexemes → ⊥) × IsNoAssignment line.lexemes × (r ≡ Err (Syntax line.number)))
    ⊎ ((IsTooDeep line.lexemes → ⊥) × (a : Assigned) × IsAssignment line.lexemes a.name a.tree × (r ≡ Ok a))

-- a name, and the steps of the tree that is assigned to it
pub record AssignedSteps : Type 0 where
  pub name : List ℕ
  pub steps : List NamedStep

-- the same of a tree
abbrev pub in_steps : Assigned → AssignedSteps
in_steps a = record { name = a.name; steps = postfix a.tree }

-- what an assignment line says, with the steps of its tree
abbrev pub StepsSaid : TokenLine → Result AssignedSteps FileError → Type 0
StepsSaid line r = (said : Result Assigned FileError) × AssignmentSays line said × (r ≡ (said >>= λ a. Ok (in_steps a)))
