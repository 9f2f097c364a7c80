-- The steps of a tree give its value.
use Rattle.std.proofs.Common.{◌≡◌, List, [], ◌∷◌, ◌++◌, refl, ap, ◌∙◌}
use Rattle.gadget_grammar.specs.Grammar.{Tree, named, parens, sum_of, product_of}
use Rattle.gadget_grammar.specs.Steps.{NamedStep, sum, product, postfix, Meaning, tree_value, stack_after, stack_after_steps}

module _ (V : Type 0) (m : Meaning V) where
  -- steps after steps
  after_steps-append : (xs ys : List NamedStep) (stack : List V) → stack_after_steps m (xs ++ ys) stack ≡ stack_after_steps m ys (stack_after_steps m xs stack)
  after_steps-append [] ys stack = refl
  after_steps-append (x ∷ xs) ys stack = after_steps-append xs ys (stack_after m x stack)

  -- the steps of both sides, and then their operation
  after_both : (a b : List NamedStep) (last : NamedStep) (stack : List V) → stack_after_steps m (a ++ b ++ last ∷ []) stack ≡ stack_after m last (stack_after_steps m b (stack_after_steps m a stack))
  after_both a b last stack = after_steps-append (a ++ b) (last ∷ []) stack ∙ ap (stack_after m last) (after_steps-append a b stack)

  -- the steps of a tree leave its value
  pub stack_after_steps-postfix : (t : Tree) (stack : List V) → stack_after_steps m (postfix t) stack ≡ tree_value m t ∷ stack
  stack_after_steps-postfix (named w) stack = refl
  stack_after_steps-postfix (parens t) stack = stack_after_steps-postfix t stack
  stack_after_steps-postfix (sum_of a b) stack =
      after_both (postfix a) (postfix b) sum stack
      ∙ ap (λ (z : List V). stack_after m sum (stack_after_steps m (postfix b) z)) (stack_after_steps-postfix a stack)
      ∙ ap (stack_after m sum) (stack_after_steps-postfix b (tree_value m a ∷ stack))
  stack_after_steps-postfix (product_of a b) stack =
      after_both (postfix a) (postfix b) product stack
      ∙ ap (λ (z : List V). stack_after m product (stack_after_steps m (postfix b) z)) (stack_after_steps-postfix a stack)
      ∙ ap (stack_after m product) (stack_after_steps-postfix b (tree_value m a ∷ stack))
