-- A tree that is read derives by the grammar, and stands for the symbols.
use Rattle.std.proofs.Common.{◌≡◌, ℕ, Bool, true, false, cond, List, [], ◌∷◌, ◌++◌, Option, Some, None, refl, sym, ap, ◌∙◌, subst, append_assoc, append-nil}
use Rattle.std.specs.Prelude.{option_and_then, IfSome}
use Rattle.gadget_text.specs.Names.{is_name}
use Rattle.gadget_grammar.specs.Symbols.{Symbol, word, equals, plus, times, opening, closing, other}
use Rattle.gadget_grammar.specs.Grammar.{Tree, named, parens, sum_of, product_of, spelled, Rule, expr, term, unit, Derives}
use Rattle.gadget_grammar.proofs.TreeReader.{TreeLevel, TreeState, with_left, whole, next_before_unit, next_behind_unit, next_state, next_state_at, final_tree, final_tree_at, tree_from, initial_tree_state}

-- a unit is a term
unit_is_term : (t : Tree) → Derives unit t → Derives term t
unit_is_term (named w) d = d
unit_is_term (parens t) d = d
unit_is_term (sum_of a b) d = d
unit_is_term (product_of a b) d = absurd d

-- a term is an expression
term_is_expr : (t : Tree) → Derives term t → Derives expr t
term_is_expr (named w) d = d
term_is_expr (parens t) d = d
term_is_expr (sum_of a b) d = absurd d
term_is_expr (product_of a b) d = d

-- the symbols of a left side that waits, with its operation
abbrev side_text : Option Tree → Symbol → List Symbol
side_text None x = []
side_text (Some a) x = spelled a ++ x ∷ []

abbrev level_text : TreeLevel → List Symbol
level_text l = side_text l.sum plus ++ side_text l.product times

abbrev outer_text : List TreeLevel → List Symbol
outer_text [] = []
outer_text (l ∷ ls) = outer_text ls ++ (level_text l ++ opening ∷ [])

abbrev unit_text : Option Tree → List Symbol
unit_text None = []
unit_text (Some t) = spelled t

-- the symbols that were read
abbrev text : TreeState → List Symbol
text s = outer_text s.outer ++ (level_text s.here ++ unit_text s.unit)

-- a tree, where there is one, is one by the rule
abbrev Fits : Rule → Option Tree → Type 0
Fits r None = Unit {0}
Fits r (Some t) = Derives r t

abbrev FitsLevel : TreeLevel → Type 0
FitsLevel l = Fits expr l.sum × Fits term l.product

abbrev FitsLevels : List TreeLevel → Type 0
FitsLevels [] = Unit {0}
FitsLevels (l ∷ ls) = FitsLevel l × FitsLevels ls

-- all trees of a state are by the rules
record IsSound (s : TreeState) : Type 0 where
  outer : FitsLevels s.outer
  here : FitsLevel s.here
  unit : Fits unit s.unit

-- a unit together with the product that waits is a term
product_sound : (p : Option Tree) (u : Tree) → Fits term p → Derives unit u →
    Derives term (with_left product_of p u) × (spelled (with_left product_of p u) ≡ side_text p times ++ spelled u)
product_sound None u f d = (unit_is_term u d, refl)
product_sound (Some a) u f d = ((f, d), sym (append_assoc (spelled a) (times ∷ []) (spelled u)))

-- a term together with the sum that waits is an expression
sum_sound : (s : Option Tree) (t : Tree) → Fits expr s → Derives term t →
    Derives expr (with_left sum_of s t) × (spelled (with_left sum_of s t) ≡ side_text s plus ++ spelled t)
sum_sound None t f d = (term_is_expr t d, refl)
sum_sound (Some a) t f d = ((f, d), sym (append_assoc (spelled a) (plus ∷ []) (spelled t)))

-- a unit with all that waits at a level is an expression
whole_sound : (l : TreeLevel) (u : Tree) → FitsLevel l → Derives unit u → Derives expr (whole l u) × (spelled (whole l u) ≡ level_text l ++ spelled u)
whole_sound l u f d =
    let a = product_sound l.product u f.1 d in
    let b = sum_sound l.sum (with_left product_of l.product u) f.0 a.0 in
    (b.0, b.1 ∙ ap (λ (z : List Symbol). side_text l.sum plus ++ z) a.1 ∙ sym (append_assoc (side_text l.sum plus) (side_text l.product times) (spelled u)))

-- the next state, where there is one, is sound, and has read one symbol more
abbrev Goes : List TreeLevel → TreeLevel → Option Tree → Symbol → Option TreeState → Type 0
Goes ls l u x o = IfSome o (λ n. IsSound n × (text n ≡ (outer_text ls ++ (level_text l ++ unit_text u)) ++ x ∷ []))

-- a name is a unit
word_goes : (b : Bool) (ls : List TreeLevel) (l : TreeLevel) (w : List ℕ) → is_name w ≡ b → FitsLevels ls → FitsLevel l →
    Goes ls l None (word w) (cond b (Some (record { outer = ls; here = l; unit = Some (named w) })) None)
word_goes true ls l w e f g = (record { outer = f; here = g; unit = e }, simp (append_assoc, append-nil))
word_goes false ls l w e f g = tt

-- where a unit is wanted
before_unit_sound : (ls : List TreeLevel) (l : TreeLevel) (x : Symbol) → FitsLevels ls → FitsLevel l → Goes ls l None x (next_before_unit ls l x)
before_unit_sound ls l (word w) f g = word_goes (is_name w) ls l w refl f g
before_unit_sound ls l opening f g = (record { outer = (g, f); here = (tt, tt); unit = tt }, simp (append_assoc, append-nil))
before_unit_sound ls l equals f g = tt
before_unit_sound ls l plus f g = tt
before_unit_sound ls l times f g = tt
before_unit_sound ls l closing f g = tt
before_unit_sound ls l other f g = tt

-- after a unit
behind_unit_sound : (ls : List TreeLevel) (l : TreeLevel) (u : Tree) (x : Symbol) → FitsLevels ls → FitsLevel l → Derives unit u → Goes ls l (Some u) x (next_behind_unit ls l u x)
behind_unit_sound ls l u plus f g h =
    let w = whole_sound l u g h in (
      record { outer = f; here = (w.0, tt); unit = tt },
      ap (λ (z : List Symbol). outer_text ls ++ (((z ++ plus ∷ []) ++ []) ++ [])) w.1 ∙ simp (append_assoc, append-nil),
    )
behind_unit_sound ls l u times f g h =
    let w = product_sound l.product u g.1 h in (
      record { outer = f; here = (g.0, w.0); unit = tt },
      ap (λ (z : List Symbol). outer_text ls ++ ((side_text l.sum plus ++ (z ++ times ∷ [])) ++ [])) w.1 ∙ simp (append_assoc, append-nil),
    )
behind_unit_sound [] l u closing f g h = tt
behind_unit_sound (k ∷ ls) l u closing f g h =
    let w = whole_sound l u g h in (
      record { outer = f.1; here = f.0; unit = w.0 },
      ap (λ (z : List Symbol). outer_text ls ++ (level_text k ++ opening ∷ (z ++ closing ∷ []))) w.1 ∙ simp append_assoc,
    )
behind_unit_sound ls l u equals f g h = tt
behind_unit_sound ls l u opening f g h = tt
behind_unit_sound ls l u (word w) f g h = tt
behind_unit_sound ls l u other f g h = tt

-- one symbol more
next_sound : (ls : List TreeLevel) (l : TreeLevel) (u : Option Tree) (x : Symbol) → FitsLevels ls → FitsLevel l → Fits unit u → Goes ls l u x (next_state_at ls l u x)
next_sound ls l None x f g h = before_unit_sound ls l x f g
next_sound ls l (Some u) x f g h = behind_unit_sound ls l u x f g h

-- the tree, where there is one, derives, and stands for the symbols
abbrev Ends : List Symbol → Option Tree → Type 0
Ends xs o = IfSome o (λ t. Derives expr t × (xs ≡ spelled t))

-- at the end
end_sound : (ls : List TreeLevel) (l : TreeLevel) (u : Option Tree) → FitsLevel l → Fits unit u → Ends (outer_text ls ++ (level_text l ++ unit_text u)) (final_tree_at ls l u)
end_sound [] l (Some u) g h = let w = whole_sound l u g h in (w.0, sym w.1)
end_sound [] l None g h = tt
end_sound (k ∷ ls) l u g h = tt

-- one symbol more, and then the others
then_sound : (xs : List Symbol) (x : Symbol) (s : TreeState) (o : Option TreeState) → Goes s.outer s.here s.unit x o →
    ((n : TreeState) → IsSound n → Ends (text n ++ xs) (tree_from n xs)) → Ends (text s ++ x ∷ xs) (option_and_then (λ n. tree_from n xs) o)
then_sound xs x s None g ih = tt
then_sound xs x s (Some n) g ih =
    subst (λ (z : List Symbol). Ends z (tree_from n xs)) (ap (λ (z : List Symbol). z ++ xs) g.1 ∙ append_assoc (text s) (x ∷ []) xs) (ih n g.0)

-- from any sound state on
from_sound : (xs : List Symbol) (s : TreeState) → IsSound s → Ends (text s ++ xs) (tree_from s xs)
from_sound [] s g = subst (λ (z : List Symbol). Ends z (final_tree s)) (sym (append-nil (text s))) (end_sound s.outer s.here s.unit g.here g.unit)
from_sound (x ∷ xs) s g = then_sound xs x s (next_state s x) (next_sound s.outer s.here s.unit x g.outer g.here g.unit) (from_sound xs)

-- a tree that is read is one of the symbols
pub read_sound : (xs : List Symbol) → IfSome (tree_from initial_tree_state xs) (λ t. Derives expr t × (xs ≡ spelled t))
read_sound xs = from_sound xs initial_tree_state (record { outer = tt; here = (tt, tt); unit = tt })
