-- The operands that the steps of a tree find on the stack.
use Rattle.std.proofs.Common.{◌≡◌, ◌<◌, ◌≤◌, ◌+◌, ◌-◌, ℕ, suc, List, [], ◌∷◌, ◌++◌, length, get_or, drop, drop-cons, sym, ap, subst, ◌∙◌, append_assoc, append-nil, arith}
use Rattle.std.proofs.lemmas.List.{length-reverse}
use Rattle.gadget_model.specs.Circuit.{Node}
use Rattle.gadget_grammar.specs.Grammar.{Tree, named, parens, sum_of, product_of}
use Rattle.gadget_grammar.specs.declared.step.Step.{Step}
use Rattle.gadget_grammar.specs.Seen.{step_in, steps_in}
use Rattle.gadget_grammar.specs.Steps.{NamedStep, name, sum, product, postfix}
use Rattle.gadget_tree.specs.declared.making.Making as code
use Rattle.gadget_tree.specs.Made.{operand_count, Making, start, after_step, making_of}

-- each step finds its operands where so many values wait, and at the end one value waits
abbrev pub FindOperands : ℕ → List NamedStep → Type 0
FindOperands waiting [] = waiting ≡ 1
FindOperands waiting (step ∷ steps) = (operand_count step ≤ waiting) × FindOperands (waiting - operand_count step + 1) steps

-- the steps of an operation, whose operands leave a value each
operation-operands : (waiting : ℕ) (a b : List NamedStep) (step : NamedStep) (rest : List NamedStep) → operand_count step ≡ 2 → FindOperands (waiting + 1) rest →
    (FindOperands (waiting + 1) (b ++ step ∷ rest) → FindOperands waiting (a ++ (b ++ step ∷ rest))) →
    (FindOperands (waiting + 1 + 1) (step ∷ rest) → FindOperands (waiting + 1) (b ++ step ∷ rest)) → FindOperands waiting ((a ++ b ++ step ∷ []) ++ rest)
operation-operands waiting a b step rest two h first second =
    let left : waiting + 1 ≡ waiting + 1 + 1 - operand_count step + 1 = omega (arith, two) in
    let whole : a ++ (b ++ step ∷ rest) ≡ (a ++ b ++ step ∷ []) ++ rest = simp append_assoc in
    subst (FindOperands waiting) whole (first (second (omega (arith, two), subst (λ (n : ℕ). FindOperands n rest) left h)))

-- so do those of a tree, which leave one value more
postfix-operands : (t : Tree) (waiting : ℕ) (rest : List NamedStep) → FindOperands (waiting + 1) rest → FindOperands waiting (postfix t ++ rest)
postfix-operands (named w) waiting rest h = (omega arith, subst (λ (n : ℕ). FindOperands n rest) (omega arith) h)
postfix-operands (parens t) waiting rest h = postfix-operands t waiting rest h
postfix-operands (sum_of a b) waiting rest h =
    operation-operands waiting (postfix a) (postfix b) sum rest (omega arith) h (postfix-operands a waiting (postfix b ++ sum ∷ rest)) (postfix-operands b (waiting + 1) (sum ∷ rest))
postfix-operands (product_of a b) waiting rest h =
    operation-operands waiting (postfix a) (postfix b) product rest (omega arith) h (postfix-operands a waiting (postfix b ++ product ∷ rest)) (postfix-operands b (waiting + 1) (product ∷ rest))

-- at the start nothing waits, and the steps of a tree find all their operands
pub operands-start : (m : code.Making) (t : Tree) (steps : List NamedStep) → making_of m ≡ start → steps ≡ postfix t → FindOperands (length m.stack.items) steps
operands-start m t steps e f =
    let n = ap (λ (k : Making). length k.stack) e in
    let none : 0 ≡ length m.stack.items = omega (arith, length-reverse m.stack.items, n) in
    subst (λ (i : ℕ). FindOperands i steps) none (subst (FindOperands 0) (append-nil (postfix t) ∙ sym f) (postfix-operands t 0 [] (omega arith)))

-- how many values wait after a step
step-waiting : (look : List ℕ → ℕ) (base : ℕ) (stack : List ℕ) (nodes : List Node) (step : NamedStep) → operand_count step ≤ length stack →
    length (after_step look base (record { stack = stack; nodes = nodes }) step).stack ≡ length stack - operand_count step + 1
step-waiting look base stack nodes (name w) l = omega arith
step-waiting look base [] nodes sum l = omega arith
step-waiting look base (a ∷ []) nodes sum l = omega arith
step-waiting look base (b ∷ a ∷ stack) nodes sum l = omega arith
step-waiting look base [] nodes product l = omega arith
step-waiting look base (a ∷ []) nodes product l = omega arith
step-waiting look base (b ∷ a ∷ stack) nodes product l = omega arith

-- the steps after one find their operands
pub operands-next : (look : List ℕ → ℕ) (base : ℕ) (old now : code.Making) (step : NamedStep) (steps : List NamedStep) → making_of now ≡ after_step look base (making_of old) step →
    FindOperands (length old.stack.items) (step ∷ steps) → FindOperands (length now.stack.items) steps
operands-next look base old now step steps e h =
    let l = length-reverse old.stack.items in
    let k = length-reverse now.stack.items in
    let w = step-waiting look base (making_of old).stack (making_of old).nodes step (omega (arith, l, h.0)) in
    let n = ap (λ (m : Making). length m.stack) e in
    subst (λ (i : ℕ). FindOperands i steps) (omega (arith, l, k, w, n)) h.1

-- the step at a place, and those after it
pub operands-at : (bytes : List ℕ) (steps : List Step) (i waiting : ℕ) (d : Step) → i < length steps → FindOperands waiting (steps_in bytes (drop i steps)) →
    FindOperands waiting (step_in bytes (get_or steps i d) ∷ steps_in bytes (drop (i + 1) steps))
operands-at bytes steps i waiting d l h =
    let next : suc i ≡ i + 1 = omega arith in
    subst (λ (ss : List Step). FindOperands waiting (steps_in bytes ss)) (drop-cons steps i d l ∙ ap (λ (k : ℕ). get_or steps i d ∷ drop k steps) next) h
