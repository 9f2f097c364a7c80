-- The grammar of an assignment line. Both operations group to the left:
--
--     assign = name "=" expr
--     expr   = term { ("+" | "^") term }
--     term   = unit { ("*" | "&") unit }
--     unit   = name | "(" expr ")"
use Rattle.std.specs.Prelude.{◌≡◌, ℕ, IsTrue, List, [], ◌∷◌, ◌++◌}
use Rattle.gadget_text.specs.Tokens.{Lexeme}
use Rattle.gadget_text.specs.Names.{is_name}
use Rattle.gadget_grammar.specs.Symbols.{Symbol, word, equals, plus, times, opening, closing, symbols_of}

-- a derivation tree
pub data Tree : Type 0 where
  named : List ℕ → Tree
  parens : Tree → Tree
  sum_of : Tree → Tree → Tree
  product_of : Tree → Tree → Tree

-- the symbols that a tree stands for
abbrev pub spelled : Tree → List Symbol
spelled (named name) = word name ∷ []
spelled (parens t) = opening ∷ (spelled t ++ closing ∷ [])
spelled (sum_of a b) = spelled a ++ plus ∷ spelled b
spelled (product_of a b) = spelled a ++ times ∷ spelled b

-- the rules for what stands after `=`
pub data Rule : Type 0 where
  expr : Rule
  term : Rule
  unit : Rule

-- The tree is one by the rule. An expression is a term, or an expression, `+` and a term; a term is a unit, or a term,
-- `*` and a unit; a unit is a name, or an expression in parentheses.
abbrev pub Derives : Rule → Tree → Type 0
Derives rule (named name) = IsTrue (is_name name)
Derives rule (parens t) = Derives expr t
Derives expr (sum_of a b) = Derives expr a × Derives term b
Derives term (sum_of a b) = ⊥
Derives unit (sum_of a b) = ⊥
Derives expr (product_of a b) = Derives term a × Derives unit b
Derives term (product_of a b) = Derives term a × Derives unit b
Derives unit (product_of a b) = ⊥

-- the symbols are an expression, with this tree
pub record AreExpression (symbols : List Symbol) (tree : Tree) : Type 0 where
  pub derives : Derives expr tree
  pub spells : symbols ≡ spelled tree

-- the tokens are an expression, with this tree
abbrev pub IsExpression : List Lexeme → Tree → Type 0
IsExpression lexemes tree = AreExpression (symbols_of lexemes) tree

-- the tokens assign an expression, with this tree, to a name
pub record IsAssignment (lexemes : List Lexeme) (name : List ℕ) (tree : Tree) : Type 0 where
  pub names : IsTrue (is_name name)
  pub derives : Derives expr tree
  pub spells : symbols_of lexemes ≡ word name ∷ equals ∷ spelled tree
