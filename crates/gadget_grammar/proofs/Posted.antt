-- The machine's steps are those of the trees that the tree reader keeps.
use Rattle.std.proofs.Common.{◌≡◌, ℕ, Bool, true, false, cond, List, [], ◌∷◌, ◌++◌, map, Option, Some, None, is_some, refl, sym, ap, ◌∙◌, append_assoc, append-nil}
use Rattle.std.specs.Prelude.{option_map, option_and_then}
use Rattle.gadget_grammar.specs.declared.level.Level.{Level}
use Rattle.gadget_text.specs.Names.{is_name}
use Rattle.gadget_grammar.specs.Symbols.{Symbol, word, equals, plus, times, opening, closing, other}
use Rattle.gadget_grammar.specs.Grammar.{Tree, named, sum_of, product_of}
use Rattle.gadget_grammar.specs.Steps.{NamedStep, name, sum, product, postfix}
use Rattle.gadget_grammar.specs.Machine as machine
use Rattle.gadget_grammar.proofs.TreeReader.{TreeLevel, TreeState, with_left, whole, after_closing, next_before_unit, next_behind_unit, next_state, next_state_at, final_tree_at, tree_from, initial_tree_state}

-- the steps of a tree, where there is one
abbrev steps_of : Option Tree → List NamedStep
steps_of None = []
steps_of (Some t) = postfix t

-- the steps of the left sides that wait at a level
abbrev level_steps : TreeLevel → List NamedStep
level_steps l = steps_of l.sum ++ steps_of l.product

-- and those of all levels around
abbrev outer_steps : List TreeLevel → List NamedStep
outer_steps [] = []
outer_steps (l ∷ ls) = outer_steps ls ++ level_steps l

-- what waits, without the trees
abbrev level_of : TreeLevel → Level
level_of l = record { sum = is_some l.sum; product = is_some l.product }

-- the machine's state where the trees have been put out
abbrev state_at : List TreeLevel → TreeLevel → Option Tree → machine.State
state_at ls l u = record { steps = outer_steps ls ++ (level_steps l ++ steps_of u); outer = map level_of ls; here = level_of l; has_unit = is_some u }

-- the same of a state
abbrev state_of : TreeState → machine.State
state_of s = state_at s.outer s.here s.unit

-- a product that waits is put out after its right side
product_posted : (front : List NamedStep) (p : Option Tree) (u : Tree) →
    machine.with_waiting (is_some p) product (front ++ (steps_of p ++ postfix u)) ≡ front ++ postfix (with_left product_of p u)
product_posted front None u = refl
product_posted front (Some a) u = simp append_assoc

-- a sum that waits is put out after its right side
sum_posted : (front : List NamedStep) (s : Option Tree) (t : Tree) →
    machine.with_waiting (is_some s) sum (front ++ (steps_of s ++ postfix t)) ≡ front ++ postfix (with_left sum_of s t)
sum_posted front None t = refl
sum_posted front (Some a) t = simp append_assoc

-- all that waits at a level is put out
level_posted : (front : List NamedStep) (l : TreeLevel) (u : Tree) →
    machine.with_level (level_of l) (front ++ (level_steps l ++ postfix u)) ≡ front ++ postfix (whole l u)
level_posted front l u =
    let s = steps_of l.sum in
    let p = steps_of l.product in
    ap (λ (z : List NamedStep). machine.with_level (level_of l) z) (ap (λ (z : List NamedStep). front ++ z) (append_assoc s p (postfix u)) ∙ sym (append_assoc front s (p ++ postfix u)))
    ∙ ap (machine.with_waiting (is_some l.sum) sum) (product_posted (front ++ s) l.product u ∙ append_assoc front s (postfix (with_left product_of l.product u)))
    ∙ sum_posted front l.sum (with_left product_of l.product u)

-- the machine's next state is that of the tree reader's
abbrev Same : Option machine.State → Option TreeState → Type 0
Same m o = m ≡ option_map state_of o

-- a name is put out
word_posted : (b : Bool) (ls : List TreeLevel) (l : TreeLevel) (w : List ℕ) →
    Same (cond b (Some (record { steps = (outer_steps ls ++ (level_steps l ++ [])) ++ name w ∷ []; outer = map level_of ls; here = level_of l; has_unit = true })) None)
    (cond b (Some (record { outer = ls; here = l; unit = Some (named w) })) None)
word_posted true ls l w =
    ap (λ (z : List NamedStep). Some (record { steps = z; outer = map level_of ls; here = level_of l; has_unit = true }))
    (let e : (outer_steps ls ++ (level_steps l ++ [])) ++ name w ∷ [] ≡ outer_steps ls ++ (level_steps l ++ name w ∷ []) = simp (append_assoc, append-nil) in e)
word_posted false ls l w = refl

-- where a unit is wanted
before_unit_posted : (ls : List TreeLevel) (l : TreeLevel) (x : Symbol) →
    Same (machine.next_before_unit (outer_steps ls ++ (level_steps l ++ [])) (map level_of ls) (level_of l) x) (next_before_unit ls l x)
before_unit_posted ls l (word w) = word_posted (is_name w) ls l w
before_unit_posted ls l opening =
    ap (λ (z : List NamedStep). Some (record { steps = z; outer = level_of l ∷ map level_of ls; here = machine.empty; has_unit = false }))
    (let e : outer_steps ls ++ (level_steps l ++ []) ≡ (outer_steps ls ++ level_steps l) ++ (([] ++ []) ++ []) = simp (append_assoc, append-nil) in e)
before_unit_posted ls l equals = refl
before_unit_posted ls l plus = refl
before_unit_posted ls l times = refl
before_unit_posted ls l closing = refl
before_unit_posted ls l other = refl

-- at a closing parenthesis
closing_posted : (ls : List TreeLevel) (t : Tree) → Same (machine.after_closing (outer_steps ls ++ postfix t) (map level_of ls)) (after_closing t ls)
closing_posted [] t = refl
closing_posted (k ∷ ls) t =
    ap (λ (z : List NamedStep). Some (record { steps = z; outer = map level_of ls; here = level_of k; has_unit = true })) (append_assoc (outer_steps ls) (level_steps k) (postfix t))

-- after a unit
behind_unit_posted : (ls : List TreeLevel) (l : TreeLevel) (u : Tree) (x : Symbol) →
    Same (machine.next_behind_unit (outer_steps ls ++ (level_steps l ++ postfix u)) (map level_of ls) (level_of l) x) (next_behind_unit ls l u x)
behind_unit_posted ls l u plus =
    ap (λ (z : List NamedStep). Some (record { steps = z; outer = map level_of ls; here = record { sum = true; product = false }; has_unit = false }))
    (level_posted (outer_steps ls) l u ∙ ap (λ (z : List NamedStep). outer_steps ls ++ z) (sym (append-nil _) ∙ sym (append-nil _)))
behind_unit_posted ls l u times =
    ap (λ (z : List NamedStep). Some (record { steps = z; outer = map level_of ls; here = record { sum = is_some l.sum; product = true }; has_unit = false }))
    (ap (machine.with_waiting (is_some l.product) product) (ap (λ (z : List NamedStep). outer_steps ls ++ z) (append_assoc (steps_of l.sum) (steps_of l.product) (postfix u)) ∙ sym (append_assoc (outer_steps ls) (steps_of l.sum) (steps_of l.product ++ postfix u)))
    ∙ product_posted (outer_steps ls ++ steps_of l.sum) l.product u
    ∙ append_assoc (outer_steps ls) (steps_of l.sum) (postfix (with_left product_of l.product u))
    ∙ ap (λ (z : List NamedStep). outer_steps ls ++ z) (sym (append-nil _)))
behind_unit_posted ls l u closing = ap (λ (z : List NamedStep). machine.after_closing z (map level_of ls)) (level_posted (outer_steps ls) l u) ∙ closing_posted ls (whole l u)
behind_unit_posted ls l u equals = refl
behind_unit_posted ls l u opening = refl
behind_unit_posted ls l u (word w) = refl
behind_unit_posted ls l u other = refl

-- one symbol more
next_posted : (ls : List TreeLevel) (l : TreeLevel) (u : Option Tree) (x : Symbol) → Same (machine.next_state (state_at ls l u) x) (next_state_at ls l u x)
next_posted ls l None x = before_unit_posted ls l x
next_posted ls l (Some u) x = behind_unit_posted ls l u x

-- at the end
final_posted : (ls : List TreeLevel) (l : TreeLevel) (u : Option Tree) → machine.final_steps (state_at ls l u) ≡ option_map postfix (final_tree_at ls l u)
final_posted [] l (Some u) = ap Some (level_posted [] l u)
final_posted [] l None = refl
final_posted (k ∷ ls) l (Some u) = refl
final_posted (k ∷ ls) l None = refl

-- one symbol more, and then the others
then_posted : (xs : List Symbol) (o : Option TreeState) → ((s : TreeState) → machine.steps_from (state_of s) xs ≡ option_map postfix (tree_from s xs)) →
    option_and_then (λ n. machine.steps_from n xs) (option_map state_of o) ≡ option_map postfix (option_and_then (λ n. tree_from n xs) o)
then_posted xs None ih = refl
then_posted xs (Some s) ih = ih s

-- from any state on
from_posted : (xs : List Symbol) (s : TreeState) → machine.steps_from (state_of s) xs ≡ option_map postfix (tree_from s xs)
from_posted [] s = final_posted s.outer s.here s.unit
from_posted (x ∷ xs) s =
    ap (option_and_then (λ n. machine.steps_from n xs)) (next_posted s.outer s.here s.unit x) ∙ then_posted xs (next_state s x) (from_posted xs)

-- the machine gives the steps of the tree that is read
pub steps_read : (xs : List Symbol) → machine.steps_from machine.initial_state xs ≡ option_map postfix (tree_from initial_tree_state xs)
steps_read xs = from_posted xs initial_tree_state
