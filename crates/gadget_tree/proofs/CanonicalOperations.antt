-- The operation lines of the canonical text: their tokens, and what they say.
use Rattle.std.proofs.Common.{◌≡◌, ◌<◌, ◌+◌, ℕ, zero, suc, true, List, [], ◌∷◌, length, get_or, map, take, refl, ap, ◌∙◌, arith}
use Rattle.std.specs.List.{AllByRecursion, list_all, join_with_byte}
use Rattle.std.proofs.lemmas.Bool.{and_from}
use Rattle.std.proofs.lemmas.List.Elements.{Contains-get_or}
use Rattle.gadget_model.specs.Circuit.{Node, share, random, copy, sum_of, product_of, Variable, NamesEarlier}
use Rattle.gadget_text.specs.declared.token.TokenKind.TheVariants.{Equals, Plus, Times}
use Rattle.gadget_text.specs.Tokens.{Lexeme}
use Rattle.gadget_text.proofs.WordBytes.{IsNamed, IsNamed-from_name}
use Rattle.gadget_text.proofs.SpacedWords.{HasLexemes, word_lexeme, sign_lexeme, HasLexemes-copy, HasLexemes-sum, HasLexemes-product}
use Rattle.gadget_grammar.specs.Symbols.{Symbol, word, equals, plus, times, opening, closing, other, symbols_of}
use Rattle.gadget_grammar.specs.Nesting.{IsTooDeep, count_opened}
use Rattle.gadget_grammar.specs.Grammar.{Tree, named, IsAssignment}
use Rattle.gadget_grammar.specs.Grammar as tree
use Rattle.gadget_tree.specs.Variables.{is_among, place_of, AreDistinct}
use Rattle.gadget_tree.specs.Operations.{leaves, line_parts, line_names, line_nodes}
use Rattle.gadget_tree.specs.Gadgets.{IsOperationNode, IsOperation}
use Rattle.gadget_tree.proofs.Names.{contains_among}
use Rattle.gadget_tree.proofs.NamePlaces.{place_of-get_or}
use Rattle.gadget_tree.proofs.CanonicalLines.{Script, IsRead}

-- the words of an operation's line, where the variables have these names
abbrev pub operation_words : List (List ℕ) → List ℕ → Node → List (List ℕ)
operation_words names x (share k) = []
operation_words names x (random k) = []
operation_words names x (copy a) = x ∷ (61 ∷ []) ∷ get_or names a [] ∷ []
operation_words names x (sum_of a b) = x ∷ (61 ∷ []) ∷ get_or names a [] ∷ (43 ∷ []) ∷ get_or names b [] ∷ []
operation_words names x (product_of a b) = x ∷ (61 ∷ []) ∷ get_or names a [] ∷ (42 ∷ []) ∷ get_or names b [] ∷ []

-- the tokens after the name
abbrev pub operation_lexemes : List (List ℕ) → Node → List Lexeme
operation_lexemes names (share k) = []
operation_lexemes names (random k) = []
operation_lexemes names (copy a) = sign_lexeme Equals 61 ∷ word_lexeme (get_or names a []) ∷ []
operation_lexemes names (sum_of a b) = sign_lexeme Equals 61 ∷ word_lexeme (get_or names a []) ∷ sign_lexeme Plus 43 ∷ word_lexeme (get_or names b []) ∷ []
operation_lexemes names (product_of a b) = sign_lexeme Equals 61 ∷ word_lexeme (get_or names a []) ∷ sign_lexeme Times 42 ∷ word_lexeme (get_or names b []) ∷ []

-- the line of an operation
abbrev pub operation_script : List (List ℕ) → Variable → Script
operation_script names v = record { words = operation_words names v.name v.node; first = word_lexeme v.name; others = operation_lexemes names v.node }

-- the tree of an operation
abbrev pub operation_tree : List (List ℕ) → Node → Tree
operation_tree names (share k) = named []
operation_tree names (random k) = named []
operation_tree names (copy a) = named (get_or names a [])
operation_tree names (sum_of a b) = tree.sum_of (named (get_or names a [])) (named (get_or names b []))
operation_tree names (product_of a b) = tree.product_of (named (get_or names a [])) (named (get_or names b []))

-- a variable that is an operation on those before it
pub record IsStep (randoms k : ℕ) (v : Variable) : Type 0 where
  pub operation : IsOperation v
  pub earlier : NamesEarlier randoms k v.node

-- each of these is an operation on those before it, where there are so many in front
abbrev pub AreSteps : ℕ → ℕ → List Variable → Type 0
AreSteps randoms k [] = Unit {0}
AreSteps randoms k (v ∷ vs) = IsStep randoms k v × AreSteps randoms (k + 1) vs

-- the first variables have names
abbrev pub AreNamed : List (List ℕ) → ℕ → Type 0
AreNamed names k = (a : ℕ) → a < k → IsNamed (get_or names a [])

operation_read : (names : List (List ℕ)) (randoms k : ℕ) (x : List ℕ) (node : Node) → IsNamed x → AreNamed names k → IsOperationNode node → NamesEarlier randoms k node →
    HasLexemes (join_with_byte 32 (operation_words names x node)) (word_lexeme x ∷ operation_lexemes names node)
operation_read names randoms k x (share i) h n o e = absurd o
operation_read names randoms k x (random i) h n o e = absurd o
operation_read names randoms k x (copy a) h n o e = HasLexemes-copy x (get_or names a []) h (n a e)
operation_read names randoms k x (sum_of a b) h n o e = HasLexemes-sum x (get_or names a []) (get_or names b []) h (n a e.0) (n b e.1)
operation_read names randoms k x (product_of a b) h n o e = HasLexemes-product x (get_or names a []) (get_or names b []) h (n a e.0) (n b e.1)

-- operations are read as their tokens
pub operations_read : (names : List (List ℕ)) (randoms k : ℕ) (vs : List Variable) → AreSteps randoms k vs → AreNamed names (k + length vs) → AllByRecursion IsRead (map (operation_script names) vs)
operations_read names randoms k [] h n = tt
operations_read names randoms k (v ∷ vs) h n =
    let r = operation_read names randoms k v.name v.node (IsNamed-from_name v.name h.0.operation.name) (λ a l. n a (omega arith)) h.0.operation.node h.0.earlier in
    (record { printed = r.printed; lexemes = r.reads }, operations_read names randoms (k + 1) vs h.1 (λ a l. n a (omega arith)))

-- operation lines open no parenthesis
abbrev IsUnopened : Symbol → Type 0
IsUnopened opening = ⊥
IsUnopened symbol = Unit {0}

none_opened : (k : ℕ) (symbols : List Symbol) → AllByRecursion IsUnopened symbols → count_opened (take k symbols) ≡ 0
none_opened zero symbols h = refl
none_opened (suc k) [] h = refl
none_opened (suc k) (word w ∷ symbols) h = none_opened k symbols h.1
none_opened (suc k) (equals ∷ symbols) h = none_opened k symbols h.1
none_opened (suc k) (plus ∷ symbols) h = none_opened k symbols h.1
none_opened (suc k) (times ∷ symbols) h = none_opened k symbols h.1
none_opened (suc k) (opening ∷ symbols) h = absurd h.0
none_opened (suc k) (closing ∷ symbols) h = none_opened k symbols h.1
none_opened (suc k) (other ∷ symbols) h = none_opened k symbols h.1

-- so they are not nested too deep
pub flat : (lexemes : List Lexeme) → AllByRecursion IsUnopened (symbols_of lexemes) → IsTooDeep lexemes → ⊥
flat lexemes h d = omega (arith, none_opened d.0 (symbols_of lexemes) h, d.1)

-- no token of an operation opens a parenthesis
pub operation_flat : (names : List (List ℕ)) (x : List ℕ) (node : Node) → AllByRecursion IsUnopened (symbols_of (word_lexeme x ∷ operation_lexemes names node))
operation_flat names x (share i) = (tt, tt)
operation_flat names x (random i) = (tt, tt)
operation_flat names x (copy a) = (tt, (tt, (tt, tt)))
operation_flat names x (sum_of a b) = (tt, (tt, (tt, (tt, (tt, tt)))))
operation_flat names x (product_of a b) = (tt, (tt, (tt, (tt, (tt, tt)))))

-- the tokens of an operation assign its tree to its name
pub operation_assigns : (names : List (List ℕ)) (randoms k : ℕ) (x : List ℕ) (node : Node) → IsNamed x → AreNamed names k → IsOperationNode node → NamesEarlier randoms k node →
    IsAssignment (word_lexeme x ∷ operation_lexemes names node) x (operation_tree names node)
operation_assigns names randoms k x (share i) h n o e = absurd o
operation_assigns names randoms k x (random i) h n o e = absurd o
operation_assigns names randoms k x (copy a) h n o e = record { names = h.name; derives = (n a e).name; spells = refl }
operation_assigns names randoms k x (sum_of a b) h n o e = record { names = h.name; derives = ((n a e.0).name, (n b e.1).name); spells = refl }
operation_assigns names randoms k x (product_of a b) h n o e = record { names = h.name; derives = ((n a e.0).name, (n b e.1).name); spells = refl }

-- the earlier names are distinct, and stand in front of all
pub record AreFirst (names earlier : List (List ℕ)) : Type 0 where
  pub distinct : AreDistinct earlier
  pub same : (a : ℕ) → a < length earlier → get_or names a [] ≡ get_or earlier a []

first_among : (names earlier : List (List ℕ)) (a : ℕ) → AreFirst names earlier → a < length earlier → is_among earlier (get_or names a []) ≡ true
first_among names earlier a h l = ap (is_among earlier) (h.same a l) ∙ contains_among earlier (get_or earlier a []) (Contains-get_or earlier a [] l)

first_place : (names earlier : List (List ℕ)) (a : ℕ) → AreFirst names earlier → a < length earlier → place_of earlier (get_or names a []) ≡ a
first_place names earlier a h l = ap (place_of earlier) (h.same a l) ∙ place_of-get_or earlier a [] h.distinct l

-- the names in the tree of an operation are earlier names
pub operation_known : (names earlier : List (List ℕ)) (randoms k : ℕ) (node : Node) → k ≡ length earlier → AreFirst names earlier → IsOperationNode node → NamesEarlier randoms k node →
    list_all (is_among earlier) (leaves (operation_tree names node)) ≡ true
operation_known names earlier randoms k (share i) l h o e = absurd o
operation_known names earlier randoms k (random i) l h o e = absurd o
operation_known names earlier randoms k (copy a) l h o e = and_from _ true (first_among names earlier a h (omega (arith, e, l))) refl
operation_known names earlier randoms k (sum_of a b) l h o e =
    and_from _ _ (first_among names earlier a h (omega (arith, e.0, l))) (and_from _ true (first_among names earlier b h (omega (arith, e.1, l))) refl)
operation_known names earlier randoms k (product_of a b) l h o e =
    and_from _ _ (first_among names earlier a h (omega (arith, e.0, l))) (and_from _ true (first_among names earlier b h (omega (arith, e.1, l))) refl)

-- the tree of an operation has one node, that of the operation
pub operation_node : (names earlier : List (List ℕ)) (randoms k base : ℕ) (node : Node) → k ≡ length earlier → AreFirst names earlier → IsOperationNode node → NamesEarlier randoms k node →
    line_nodes (place_of earlier) base (operation_tree names node) ≡ node ∷ []
operation_node names earlier randoms k base (share i) l h o e = absurd o
operation_node names earlier randoms k base (random i) l h o e = absurd o
operation_node names earlier randoms k base (copy a) l h o e = ap (λ (z : ℕ). copy z ∷ []) (first_place names earlier a h (omega (arith, e, l)))
operation_node names earlier randoms k base (sum_of a b) l h o e =
    ap (λ (z : ℕ). sum_of z (place_of earlier (get_or names b [])) ∷ []) (first_place names earlier a h (omega (arith, e.0, l)))
    ∙ ap (λ (z : ℕ). sum_of a z ∷ []) (first_place names earlier b h (omega (arith, e.1, l)))
operation_node names earlier randoms k base (product_of a b) l h o e =
    ap (λ (z : ℕ). product_of z (place_of earlier (get_or names b [])) ∷ []) (first_place names earlier a h (omega (arith, e.0, l)))
    ∙ ap (λ (z : ℕ). product_of a z ∷ []) (first_place names earlier b h (omega (arith, e.1, l)))

-- the line of an operation makes one variable
pub one_part : (names : List (List ℕ)) (node : Node) → length (line_parts (operation_tree names node)) ≡ 1
one_part names (share i) = refl
one_part names (random i) = refl
one_part names (copy a) = refl
one_part names (sum_of a b) = refl
one_part names (product_of a b) = refl

-- the line of an operation makes the variable of its name
pub one_name : (names : List (List ℕ)) (x : List ℕ) (node : Node) → line_names x (operation_tree names node) ≡ x ∷ []
one_name names x (share i) = refl
one_name names x (random i) = refl
one_name names x (copy a) = refl
one_name names x (sum_of a b) = refl
one_name names x (product_of a b) = refl
