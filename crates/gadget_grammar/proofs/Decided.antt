-- Whether tokens are an assignment, and whether parentheses are nested too deep in them, is settled.
use Rattle.std.proofs.Common.{◌≡◌, ℕ, Bool, true, false, ◌⊎◌, List, drop, Option, Some, None, refl, inl, inr}
use Rattle.gadget_text.specs.Tokens.{Lexeme}
use Rattle.gadget_grammar.specs.Symbols.{symbols_of}
use Rattle.gadget_grammar.specs.Grammar.{Tree, IsAssignment}
use Rattle.gadget_grammar.specs.Steps.{NamedStep}
use Rattle.gadget_grammar.specs.Nesting.{IsTooDeep, is_too_deep}
use Rattle.gadget_grammar.specs.Machine.{left_name, steps_from, initial_state}
use Rattle.gadget_grammar.proofs.Lines.{too_deep, not_deep, assigned, unnamed, unread}

-- tokens assign some tree to some name, or they are no assignment
abbrev IsSettled : List Lexeme → Type 0
IsSettled lexemes = ((name : List ℕ) × (tree : Tree) × IsAssignment lexemes name tree) ⊎ ((name : List ℕ) (tree : Tree) → IsAssignment lexemes name tree → ⊥)

-- where a name stands on the left side, the machine settles it
by_steps : (lexemes : List Lexeme) (w : List ℕ) → left_name (symbols_of lexemes) ≡ Some w → (o : Option (List NamedStep)) → steps_from initial_state (drop 2 (symbols_of lexemes)) ≡ o → IsSettled lexemes
by_steps lexemes w e None f = inr (unread lexemes f)
by_steps lexemes w e (Some steps) f = let t = assigned lexemes w steps e f in inl (w, t.0, t.1)

by_name : (lexemes : List Lexeme) (o : Option (List ℕ)) → left_name (symbols_of lexemes) ≡ o → IsSettled lexemes
by_name lexemes None e = inr (unnamed lexemes e)
by_name lexemes (Some w) e = by_steps lexemes w e (steps_from initial_state (drop 2 (symbols_of lexemes))) refl

-- tokens are an assignment, or they are none
pub assignment_or_none : (lexemes : List Lexeme) → ((name : List ℕ) × (tree : Tree) × IsAssignment lexemes name tree) ⊎ ((name : List ℕ) (tree : Tree) → IsAssignment lexemes name tree → ⊥)
assignment_or_none lexemes = by_name lexemes (left_name (symbols_of lexemes)) refl

-- parentheses are nested too deep in tokens, or they aren't
pub deep_or_not : (lexemes : List Lexeme) → IsTooDeep lexemes ⊎ (IsTooDeep lexemes → ⊥)
deep_or_not lexemes = by_walk (is_too_deep 0 0 (symbols_of lexemes)) refl where
  by_walk : (b : Bool) → is_too_deep 0 0 (symbols_of lexemes) ≡ b → IsTooDeep lexemes ⊎ (IsTooDeep lexemes → ⊥)
  by_walk true e = inl (too_deep lexemes e)
  by_walk false e = inr (not_deep lexemes e)
