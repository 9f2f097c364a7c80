-- What a tree stands for is read as the tree.
use Rattle.std.proofs.Common.{◌≡◌, ℕ, Bool, cond, IsTrue, List, [], ◌∷◌, ◌++◌, Option, Some, None, refl, sym, ap, ◌∙◌, append_assoc, append-nil}
use Rattle.std.specs.Prelude.{option_and_then}
use Rattle.gadget_text.specs.Names.{is_name}
use Rattle.gadget_grammar.specs.Symbols.{Symbol, word, plus, times, opening, closing}
use Rattle.gadget_grammar.specs.Grammar.{Tree, named, parens, sum_of, product_of, spelled, Rule, expr, term, unit, Derives}
use Rattle.gadget_grammar.proofs.TreeReader.{TreeLevel, TreeState, nothing, with_left, next_state, final_tree, tree_from, initial_tree_state}

-- where a unit is wanted
abbrev opened : List TreeLevel → TreeLevel → TreeState
opened outer here = record { outer = outer; here = here; unit = None }

-- where a unit stands last
abbrev have : Tree → List TreeLevel → TreeLevel → TreeState
have t outer here = record { outer = outer; here = here; unit = Some t }

abbrev level : Option Tree → Option Tree → TreeLevel
level s p = record { sum = s; product = p }

-- where a tree of this rule may begin
abbrev here_of : Rule → Option Tree → Option Tree → TreeLevel
here_of expr s p = nothing
here_of term s p = level s None
here_of unit s p = level s p

-- where the reader is after a term
abbrev after_term : List TreeLevel → Option Tree → Tree → TreeState
after_term outer s (named w) = have (named w) outer (level s None)
after_term outer s (parens t) = have (parens t) outer (level s None)
after_term outer s (sum_of a b) = have (sum_of a b) outer (level s None)
after_term outer s (product_of a b) = have b outer (level s (Some a))

-- where the reader is after an expression
abbrev after_expr : List TreeLevel → Tree → TreeState
after_expr outer (named w) = after_term outer None (named w)
after_expr outer (parens t) = after_term outer None (parens t)
after_expr outer (sum_of a b) = after_term outer (Some a) b
after_expr outer (product_of a b) = after_term outer None (product_of a b)

-- where the reader is after a tree of a rule
abbrev after : Rule → List TreeLevel → Option Tree → Option Tree → Tree → TreeState
after expr outer s p t = after_expr outer t
after term outer s p t = after_term outer s t
after unit outer s p t = have t outer (level s p)

-- a term after the sum that waits
abbrev total : Option Tree → Tree → Tree
total s t = with_left sum_of s t

-- after a term, `*` makes it a left side
times_after : (outer : List TreeLevel) (s : Option Tree) (t : Tree) → Derives term t → next_state (after_term outer s t) times ≡ Some (opened outer (level s (Some t)))
times_after outer s (named w) d = refl
times_after outer s (parens t) d = refl
times_after outer s (sum_of a b) d = absurd d
times_after outer s (product_of a b) d = refl

-- after a term, `+` makes it a left side together with the sum that waits
term_plus : (outer : List TreeLevel) (s : Option Tree) (t : Tree) → Derives term t → next_state (after_term outer s t) plus ≡ Some (opened outer (level (Some (total s t)) None))
term_plus outer s (named w) d = refl
term_plus outer s (parens t) d = refl
term_plus outer s (sum_of a b) d = absurd d
term_plus outer s (product_of a b) d = refl

-- after an expression, `+` makes it a left side
plus_after : (outer : List TreeLevel) (t : Tree) → Derives expr t → next_state (after_expr outer t) plus ≡ Some (opened outer (level (Some t) None))
plus_after outer (named w) d = refl
plus_after outer (parens t) d = refl
plus_after outer (sum_of a b) d = term_plus outer (Some a) b d.1
plus_after outer (product_of a b) d = refl

-- after a term, `)` makes a unit of it together with the sum that waits
term_closing : (around : TreeLevel) (outer : List TreeLevel) (s : Option Tree) (t : Tree) → Derives term t → next_state (after_term (around ∷ outer) s t) closing ≡ Some (have (parens (total s t)) outer around)
term_closing around outer s (named w) d = refl
term_closing around outer s (parens t) d = refl
term_closing around outer s (sum_of a b) d = absurd d
term_closing around outer s (product_of a b) d = refl

-- after an expression, `)` makes a unit of it
closing_after : (around : TreeLevel) (outer : List TreeLevel) (t : Tree) → Derives expr t → next_state (after_expr (around ∷ outer) t) closing ≡ Some (have (parens t) outer around)
closing_after around outer (named w) d = refl
closing_after around outer (parens t) d = refl
closing_after around outer (sum_of a b) d = term_closing around outer (Some a) b d.1
closing_after around outer (product_of a b) d = refl

-- a term at the end, together with the sum that waits
term_end : (s : Option Tree) (t : Tree) → Derives term t → final_tree (after_term [] s t) ≡ Some (total s t)
term_end s (named w) d = refl
term_end s (parens t) d = refl
term_end s (sum_of a b) d = absurd d
term_end s (product_of a b) d = refl

-- an expression at the end
end_after : (t : Tree) → Derives expr t → final_tree (after_expr [] t) ≡ Some t
end_after (named w) d = refl
end_after (parens t) d = refl
end_after (sum_of a b) d = term_end (Some a) b d.1
end_after (product_of a b) d = refl

-- one symbol more
one_more : (s n : TreeState) (x : Symbol) (xs : List Symbol) → next_state s x ≡ Some n → tree_from s (x ∷ xs) ≡ tree_from n xs
one_more s n x xs e = ap (option_and_then (λ k. tree_from k xs)) e

-- a name is read as a unit
name_reads : (w : List ℕ) → IsTrue (is_name w) → (outer : List TreeLevel) (l : TreeLevel) (rest : List Symbol) → tree_from (opened outer l) (word w ∷ rest) ≡ tree_from (have (named w) outer l) rest
name_reads w d outer l rest = one_more (opened outer l) (have (named w) outer l) (word w) rest (ap (λ (b : Bool). cond b (Some (have (named w) outer l)) None) d)

-- an expression in parentheses is read as a unit
parens_read : (t : Tree) → Derives expr t → ((outer : List TreeLevel) (s p : Option Tree) (rest : List Symbol) → tree_from (opened outer nothing) (spelled t ++ rest) ≡ tree_from (after_expr outer t) rest) → (outer : List TreeLevel) (l : TreeLevel) (rest : List Symbol) →
    tree_from (opened outer l) (opening ∷ ((spelled t ++ closing ∷ []) ++ rest)) ≡ tree_from (have (parens t) outer l) rest
parens_read t d ih outer l rest =
    ap (tree_from (opened (l ∷ outer) nothing)) (append_assoc (spelled t) (closing ∷ []) rest)
    ∙ ih (l ∷ outer) None None (closing ∷ rest)
    ∙ one_more (after_expr (l ∷ outer) t) (have (parens t) outer l) closing rest (closing_after l outer t d)

-- both sides of a product are read
product_reads : (a b : Tree) → Derives term a →
    ((outer : List TreeLevel) (s p : Option Tree) (rest : List Symbol) → tree_from (opened outer (level s None)) (spelled a ++ rest) ≡ tree_from (after_term outer s a) rest) →
    ((outer : List TreeLevel) (s p : Option Tree) (rest : List Symbol) → tree_from (opened outer (level s p)) (spelled b ++ rest) ≡ tree_from (have b outer (level s p)) rest) →
    (outer : List TreeLevel) (s : Option Tree) (rest : List Symbol) → tree_from (opened outer (level s None)) ((spelled a ++ times ∷ spelled b) ++ rest) ≡ tree_from (after_term outer s (product_of a b)) rest
product_reads a b d ia ib outer s rest =
    ap (tree_from (opened outer (level s None))) (append_assoc (spelled a) (times ∷ spelled b) rest)
    ∙ ia outer s None (times ∷ (spelled b ++ rest))
    ∙ one_more (after_term outer s a) (opened outer (level s (Some a))) times (spelled b ++ rest) (times_after outer s a d)
    ∙ ib outer s (Some a) rest

-- both sides of a sum are read
sum_reads : (a b : Tree) → Derives expr a →
    ((outer : List TreeLevel) (s p : Option Tree) (rest : List Symbol) → tree_from (opened outer nothing) (spelled a ++ rest) ≡ tree_from (after_expr outer a) rest) →
    ((outer : List TreeLevel) (s p : Option Tree) (rest : List Symbol) → tree_from (opened outer (level s None)) (spelled b ++ rest) ≡ tree_from (after_term outer s b) rest) →
    (outer : List TreeLevel) (rest : List Symbol) → tree_from (opened outer nothing) ((spelled a ++ plus ∷ spelled b) ++ rest) ≡ tree_from (after_expr outer (sum_of a b)) rest
sum_reads a b d ia ib outer rest =
    ap (tree_from (opened outer nothing)) (append_assoc (spelled a) (plus ∷ spelled b) rest)
    ∙ ia outer None None (plus ∷ (spelled b ++ rest))
    ∙ one_more (after_expr outer a) (opened outer (level (Some a) None)) plus (spelled b ++ rest) (plus_after outer a d)
    ∙ ib outer (Some a) None rest

-- the symbols of a tree bring the reader after the tree
reads : (r : Rule) (t : Tree) → Derives r t → (outer : List TreeLevel) (s p : Option Tree) (rest : List Symbol) → tree_from (opened outer (here_of r s p)) (spelled t ++ rest) ≡ tree_from (after r outer s p t) rest
reads expr (named w) d outer s p rest = name_reads w d outer nothing rest
reads term (named w) d outer s p rest = name_reads w d outer (level s None) rest
reads unit (named w) d outer s p rest = name_reads w d outer (level s p) rest
reads expr (parens t) d outer s p rest = parens_read t d (reads expr t d) outer nothing rest
reads term (parens t) d outer s p rest = parens_read t d (reads expr t d) outer (level s None) rest
reads unit (parens t) d outer s p rest = parens_read t d (reads expr t d) outer (level s p) rest
reads expr (sum_of a b) d outer s p rest = sum_reads a b d.0 (reads expr a d.0) (reads term b d.1) outer rest
reads term (sum_of a b) d outer s p rest = absurd d
reads unit (sum_of a b) d outer s p rest = absurd d
reads expr (product_of a b) d outer s p rest = product_reads a b d.0 (reads term a d.0) (reads unit b d.1) outer None rest
reads term (product_of a b) d outer s p rest = product_reads a b d.0 (reads term a d.0) (reads unit b d.1) outer s rest
reads unit (product_of a b) d outer s p rest = absurd d

-- what an expression's tree stands for is read as the tree
pub tree_read : (t : Tree) → Derives expr t → tree_from initial_tree_state (spelled t) ≡ Some t
tree_read t d = ap (tree_from initial_tree_state) (sym (append-nil (spelled t))) ∙ reads expr t d [] None None [] ∙ end_after t d
