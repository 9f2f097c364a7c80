-- The code's values without their places.
use Rattle.std.specs.Prelude.{◌≡◌, ℕ, List, [], ◌∷◌, ◌++◌, map, flat_map, reverse, Option, ok_or, Result}
use Rattle.std.specs.declared.vec.Vec.{Vec}
use Rattle.std.specs.declared.alloc.Global.{Global}
use Rattle.gadget_text.specs.declared.file_error.FileError.{FileError}
use Rattle.gadget_text.specs.declared.file_error.FileError.TheVariants.{Syntax}
use Rattle.gadget_text.specs.declared.token.Token.{Token}
use Rattle.gadget_text.specs.declared.token.TokenKind.{TokenKind}
use Rattle.gadget_text.specs.declared.token.TokenKind.TheVariants.{Word}
use Rattle.gadget_text.specs.Errors.{Gives, Is, MemoryAside}
use Rattle.gadget_text.specs.Places.{LiesWithin, text_in, lexeme_in, lexemes_in}
use Rattle.gadget_grammar.specs.declared.step.Step.{Step}
use Rattle.gadget_grammar.specs.declared.step.Step.TheVariants as code
use Rattle.gadget_grammar.specs.declared.step.Assignment.{Assignment}
use Rattle.gadget_grammar.specs.declared.reader.Reader.{Reader}
use Rattle.gadget_grammar.specs.Symbols.{Symbol, symbol_of, symbols_of}
use Rattle.gadget_grammar.specs.Steps.{NamedStep, name, sum, product}
use Rattle.gadget_grammar.specs.Machine.{State, next_state}
use Rattle.gadget_grammar.specs.Assignments.{AssignedSteps}

-- the symbols of tokens of these bytes
abbrev pub symbols_in : List ℕ → List Token → List Symbol
symbols_in bytes tokens = symbols_of (lexemes_in bytes tokens)

-- a step with the text of its name
abbrev pub step_in : List ℕ → Step → NamedStep
step_in bytes (code.Name token) = name (text_in bytes token)
step_in bytes code.Sum = sum
step_in bytes code.Product = product

-- steps with the texts of their names
abbrev pub steps_in : List ℕ → List Step → List NamedStep
steps_in bytes steps = map (step_in bytes) steps

-- the token of a step, where it is a name
abbrev pub step_tokens : Step → List Token
step_tokens (code.Name token) = token ∷ []
step_tokens step = []

-- the tokens of the names among steps, in order
abbrev pub name_tokens : List Step → List Token
name_tokens steps = flat_map step_tokens steps

-- a token of this kind, where it is a word
abbrev pub where_word : TokenKind → Token → List Token
where_word Word token = token ∷ []
where_word kind token = []

-- the words among tokens, in order
abbrev pub word_tokens : List Token → List Token
word_tokens tokens = flat_map (λ t. where_word t.kind t) tokens

-- the name of a step lies within so many bytes
abbrev pub IsStepWithin : ℕ → Step → Type 0
IsStepWithin len (code.Name token) = LiesWithin len token
IsStepWithin len code.Sum = Unit {0}
IsStepWithin len code.Product = Unit {0}

-- a reader as the machine's state
abbrev pub state_in : List ℕ → Reader → State
state_in bytes reader = record {
  steps = steps_in bytes reader.steps.items;
  outer = reverse reader.outer.items;
  here = reader.here;
  has_unit = reader.has_unit;
}

-- the machine's state after one more token, where that is right here
abbrev pub state_after : List ℕ → Reader → Token → Option State
state_after bytes reader token = next_state (state_in bytes reader) (symbol_of (lexeme_in bytes token))

-- the names among the steps stay, and a token that is a word is added to them
abbrev pub AddsName : Token → List Step → List Step → Type 0
AddsName token old new = name_tokens new ≡ name_tokens old ++ where_word token.kind token

-- what one more token answered: the machine's next state is that of the reader now, or the line is no assignment
abbrev pub Advances : ℕ → Result (Unit {0}) FileError → State → Option State → Type 0
Advances line answer now next = Gives (λ _. now) answer (MemoryAside (Is (ok_or next (Syntax line))))

-- what reading an expression answered: the machine's steps, or the line is no assignment
abbrev pub GivesSteps : ℕ → List ℕ → Result (Vec Step Global) FileError → Option (List NamedStep) → Type 0
GivesSteps line bytes answer read =
    Gives (λ v. steps_in bytes v.items) answer (MemoryAside (Is (ok_or read (Syntax line))))

-- an assignment with the texts of its names
abbrev pub assignment_in : List ℕ → Assignment → AssignedSteps
assignment_in bytes a = record { name = text_in bytes a.name; steps = steps_in bytes a.steps.items }
