-- Expressions in post-order, and their values.
use Rattle.std.specs.Prelude.{ℕ, List, [], ◌∷◌, ◌++◌}
use Rattle.gadget_grammar.specs.Grammar.{Tree, named, parens, sum_of, product_of}

-- a step of an evaluation: the value of a name, or the sum or the product of the last two values
pub data NamedStep : Type 0 where
  name : List ℕ → NamedStep
  sum : NamedStep
  product : NamedStep

-- the steps that give the value of a tree
abbrev pub postfix : Tree → List NamedStep
postfix (named word) = name word ∷ []
postfix (parens t) = postfix t
postfix (sum_of a b) = postfix a ++ postfix b ++ sum ∷ []
postfix (product_of a b) = postfix a ++ postfix b ++ product ∷ []

-- what names, sums and products mean
pub record Meaning (V : Type 0) : Type 0 where
  pub of_name : List ℕ → V
  pub of_sum : V → V → V
  pub of_product : V → V → V

-- the value of a tree
abbrev pub tree_value : {V : Type 0} → Meaning V → Tree → V
tree_value m (named word) = m.of_name word
tree_value m (parens t) = tree_value m t
tree_value m (sum_of a b) = m.of_sum (tree_value m a) (tree_value m b)
tree_value m (product_of a b) = m.of_product (tree_value m a) (tree_value m b)

-- what a step makes of a stack of values; a sum or a product leaves a stack of less than two as it is
abbrev pub stack_after : {V : Type 0} → Meaning V → NamedStep → List V → List V
stack_after m (name word) stack = m.of_name word ∷ stack
stack_after m sum (b ∷ a ∷ stack) = m.of_sum a b ∷ stack
stack_after m sum stack = stack
stack_after m product (b ∷ a ∷ stack) = m.of_product a b ∷ stack
stack_after m product stack = stack

-- the values that steps leave on a stack
abbrev pub stack_after_steps : {V : Type 0} → Meaning V → List NamedStep → List V → List V
stack_after_steps m [] stack = stack
stack_after_steps m (step ∷ steps) stack = stack_after_steps m steps (stack_after m step stack)
