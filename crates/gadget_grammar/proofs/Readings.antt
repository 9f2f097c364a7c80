-- The machine reads exactly the expressions.
use Rattle.std.proofs.Common.{◌≡◌, ℕ, List, [], ◌∷◌, drop, Option, Some, None, sym, ap, ◌∙◌}
use Rattle.std.specs.Prelude.{IfSome, option_map}
use Rattle.std.proofs.lemmas.Option.{same_Some}
use Rattle.gadget_text.specs.Tokens.{Lexeme}
use Rattle.gadget_grammar.specs.Symbols.{Symbol, word}
use Rattle.gadget_grammar.specs.Grammar.{Tree, spelled, expr, Derives, AreExpression, IsExpression, IsAssignment}
use Rattle.gadget_grammar.specs.Steps.{NamedStep, postfix}
use Rattle.gadget_grammar.specs.Machine as machine
use Rattle.gadget_grammar.proofs.TreeReader.{tree_from, initial_tree_state}
use Rattle.gadget_grammar.proofs.Complete.{tree_read}
use Rattle.gadget_grammar.proofs.Sound.{read_sound}
use Rattle.gadget_grammar.proofs.Posted.{steps_read}

-- two trees that stand for the same symbols are the same
pub one_tree : (s t : Tree) → Derives expr s → Derives expr t → spelled s ≡ spelled t → s ≡ t
one_tree s t g h e = same_Some s t (sym (tree_read s g) ∙ ap (tree_from initial_tree_state) e ∙ tree_read t h)

-- the symbols of a tree are read as its steps
pub run_spelled : (xs : List Symbol) (t : Tree) → AreExpression xs t → machine.steps_from machine.initial_state xs ≡ Some (postfix t)
run_spelled xs t h = ap (machine.steps_from machine.initial_state) h.spells ∙ steps_read (spelled t) ∙ ap (option_map postfix) (tree_read t h.derives)

-- steps that are read are those of a tree of the symbols
pub run_has_tree : (xs : List Symbol) (steps : List NamedStep) → machine.steps_from machine.initial_state xs ≡ Some steps → (t : Tree) × AreExpression xs t × (steps ≡ postfix t)
run_has_tree xs steps e = of_read (tree_from initial_tree_state xs) (read_sound xs) (sym (steps_read xs) ∙ e) where
  of_read : (o : Option Tree) → IfSome o (λ t. Derives expr t × (xs ≡ spelled t)) → option_map postfix o ≡ Some steps → (t : Tree) × AreExpression xs t × (steps ≡ postfix t)
  of_read None h f = absurd cc
  of_read (Some t) h f = (t, record { derives = h.0; spells = h.1 }, sym (same_Some (postfix t) steps f))

-- tokens have one tree at most
pub one_expression : (lexemes : List Lexeme) (s t : Tree) → IsExpression lexemes s → IsExpression lexemes t → s ≡ t
one_expression lexemes s t g h = one_tree s t g.derives h.derives (sym g.spells ∙ h.spells)

-- the name that a line's symbols begin with
abbrev first_word : List Symbol → List ℕ
first_word (word w ∷ xs) = w
first_word xs = []

-- tokens assign one tree to one name at most
pub one_assignment : (lexemes : List Lexeme) (n m : List ℕ) (s t : Tree) → IsAssignment lexemes n s → IsAssignment lexemes m t → (n ≡ m) × (s ≡ t)
one_assignment lexemes n m s t g h =
    let e = sym g.spells ∙ h.spells in
    (ap first_word e, one_tree s t g.derives h.derives (ap (drop 2) e))
