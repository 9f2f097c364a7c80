-- The nodes of a line's variables: how many they are, that they are operations, and that they stand in order.
use Rattle.std.proofs.Common.{◌≡◌, ◌<◌, ◌≤◌, ◌+◌, ℕ, true, List, [], ◌∷◌, ◌++◌, length, refl, sym, ◌∙◌, subst, arith, length-append}
use Rattle.std.specs.Prelude.{All}
use Rattle.std.specs.List.{list_all}
use Rattle.std.proofs.lemmas.Bool.{and_parts}
use Rattle.std.proofs.lemmas.List.Elements.{All-append, All-cons, All-nil, All-push}
use Rattle.std.proofs.lemmas.List.Folds.{list_all-append}
use Rattle.gadget_model.specs.Circuit.{Node, NamesEarlier}
use Rattle.gadget_model.specs.Circuit as node
use Rattle.gadget_grammar.specs.Grammar.{Tree, named, parens, sum_of, product_of}
use Rattle.gadget_tree.specs.Variables.{is_among, place_of}
use Rattle.gadget_tree.specs.Operations.{operations, or_copied, line_parts, leaves, top, operation_nodes, or_copy, line_nodes}
use Rattle.gadget_tree.specs.Gadgets.{IsOperationNode}
use Rattle.gadget_tree.proofs.Names.{place_below}
use Rattle.gadget_tree.proofs.Numbered.{AllFrom, AllFrom-append}

-- nodes from number n on, each of which names earlier ones
abbrev pub AllNameEarlier : ℕ → ℕ → List Node → Type 0
AllNameEarlier randoms n vs = AllFrom (NamesEarlier randoms) n vs

-- a tree has a node for each of its operations
pub length-operation_nodes : (look : List ℕ → ℕ) (base : ℕ) (t : Tree) → length (operation_nodes look base t) ≡ length (operations t)
length-operation_nodes look base (named name) = refl
length-operation_nodes look base (parens t) = length-operation_nodes look base t
length-operation_nodes look base (sum_of a b) =
    let m = base + length (operations a) in
    let v = node.sum_of (top look base a) (top look m b) in
    let i = length-operation_nodes look base a in
    let j = length-operation_nodes look m b in
    omega (arith, i, j, length-append (operation_nodes look base a ++ operation_nodes look m b) (v ∷ []), length-append (operation_nodes look base a) (operation_nodes look m b), length-append (operations a ++ operations b) (sum_of a b ∷ []), length-append (operations a) (operations b))
length-operation_nodes look base (product_of a b) =
    let m = base + length (operations a) in
    let v = node.product_of (top look base a) (top look m b) in
    let i = length-operation_nodes look base a in
    let j = length-operation_nodes look m b in
    omega (arith, i, j, length-append (operation_nodes look base a ++ operation_nodes look m b) (v ∷ []), length-append (operation_nodes look base a) (operation_nodes look m b), length-append (operations a ++ operations b) (product_of a b ∷ []), length-append (operations a) (operations b))

-- a line has some parts, and a node for each
same_length : (t : Tree) (a : ℕ) (parts : List Tree) (vs : List Node) → length vs ≡ length parts → (length (or_copy a vs) ≡ length (or_copied t parts)) × (1 ≤ length (or_copied t parts))
same_length t a [] [] e = (refl, omega arith)
same_length t a [] (v ∷ vs) e = absurd (omega arith)
same_length t a (part ∷ parts) [] e = absurd (omega arith)
same_length t a (part ∷ parts) (v ∷ vs) e = (e, omega arith)

pub length-line_nodes : (look : List ℕ → ℕ) (base : ℕ) (t : Tree) → length (line_nodes look base t) ≡ length (line_parts t)
length-line_nodes look base t = (same_length t (top look base t) (operations t) (operation_nodes look base t) (length-operation_nodes look base t)).0

pub some_line_parts : (t : Tree) → 1 ≤ length (line_parts t)
some_line_parts t = (same_length t 0 (operations t) (operation_nodes (λ w. 0) 0 t) (length-operation_nodes (λ w. 0) 0 t)).1

-- all nodes of a tree are operations
operation_nodes_are : (look : List ℕ → ℕ) (base : ℕ) (t : Tree) → All IsOperationNode (operation_nodes look base t)
operation_nodes_are look base (named name) = All-nil IsOperationNode
operation_nodes_are look base (parens t) = operation_nodes_are look base t
operation_nodes_are look base (sum_of a b) =
    let m = base + length (operations a) in
    All-push IsOperationNode (operation_nodes look base a ++ operation_nodes look m b) (node.sum_of (top look base a) (top look m b))
    (All-append IsOperationNode (operation_nodes look base a) (operation_nodes look m b) (operation_nodes_are look base a) (operation_nodes_are look m b)) tt
operation_nodes_are look base (product_of a b) =
    let m = base + length (operations a) in
    All-push IsOperationNode (operation_nodes look base a ++ operation_nodes look m b) (node.product_of (top look base a) (top look m b))
    (All-append IsOperationNode (operation_nodes look base a) (operation_nodes look m b) (operation_nodes_are look base a) (operation_nodes_are look m b)) tt

or_copy_is : (a : ℕ) (vs : List Node) → All IsOperationNode vs → All IsOperationNode (or_copy a vs)
or_copy_is a [] h = All-cons IsOperationNode (node.copy a) [] tt (All-nil IsOperationNode)
or_copy_is a (v ∷ vs) h = h

-- and so are those of a line
pub line_nodes_are : (look : List ℕ → ℕ) (base : ℕ) (t : Tree) → All IsOperationNode (line_nodes look base t)
line_nodes_are look base t = or_copy_is (top look base t) (operation_nodes look base t) (operation_nodes_are look base t)

-- both sides of a tree have known names
pub sides : (names : List (List ℕ)) (a b : Tree) → list_all (is_among names) (leaves a ++ leaves b) ≡ true → (list_all (is_among names) (leaves a) ≡ true) × (list_all (is_among names) (leaves b) ≡ true)
sides names a b e = and_parts (list_all (is_among names) (leaves a)) (list_all (is_among names) (leaves b)) (sym (list_all-append (is_among names) (leaves a) (leaves b)) ∙ e)

module _ (randoms : ℕ) (names : List (List ℕ)) where
  -- where all names in a tree are known, its value has a number below the next one
  top_below : (base : ℕ) (t : Tree) → length names ≤ base → list_all (is_among names) (leaves t) ≡ true → top (place_of names) base t < base + length (operations t)
  top_below base (named name) few e =
      let l = place_below names name (and_parts (is_among names name) true e).0 in
      omega arith
  top_below base (parens t) few e = top_below base t few e
  top_below base (sum_of a b) few e = omega (arith, length-append (operations a ++ operations b) (sum_of a b ∷ []), length-append (operations a) (operations b))
  top_below base (product_of a b) few e = omega (arith, length-append (operations a ++ operations b) (product_of a b ∷ []), length-append (operations a) (operations b))

  -- an operation after those of both sides
  both_in_order : (base : ℕ) (a b : Tree) (v : Node) → AllNameEarlier randoms base (operation_nodes (place_of names) base a) →
      AllNameEarlier randoms (base + length (operations a)) (operation_nodes (place_of names) (base + length (operations a)) b) →
      NamesEarlier randoms (base + length (operations a) + length (operations b)) v →
      AllNameEarlier randoms base (operation_nodes (place_of names) base a ++ operation_nodes (place_of names) (base + length (operations a)) b ++ v ∷ [])
  both_in_order base a b v h k last =
      let look = place_of names in
      let m = base + length (operations a) in
      let xs = operation_nodes look base a in
      let ys = operation_nodes look m b in
      let i = length-operation_nodes look base a in
      let j = length-operation_nodes look m b in
      let behind : m ≡ base + length xs = omega arith in
      let at : base + length (operations a) + length (operations b) ≡ base + length (xs ++ ys) = omega (arith, length-append xs ys) in
      AllFrom-append (NamesEarlier randoms) base (xs ++ ys) (v ∷ [])
      (AllFrom-append (NamesEarlier randoms) base xs ys h (subst (λ n. AllNameEarlier randoms n ys) behind k))
      (subst (λ n. NamesEarlier randoms n v) at last, tt)

  -- the nodes of a tree stand in order
  tree_in_order : (base : ℕ) (t : Tree) → length names ≤ base → list_all (is_among names) (leaves t) ≡ true → AllNameEarlier randoms base (operation_nodes (place_of names) base t)
  tree_in_order base (named name) few e = tt
  tree_in_order base (parens t) few e = tree_in_order base t few e
  tree_in_order base (sum_of a b) few e =
      let s = sides names a b e in
      let m = base + length (operations a) in
      let l = top_below base a few s.0 in
      let r = top_below m b (omega arith) s.1 in
      both_in_order base a b (node.sum_of (top (place_of names) base a) (top (place_of names) m b)) (tree_in_order base a few s.0) (tree_in_order m b (omega arith) s.1)
      (omega arith, omega arith)
  tree_in_order base (product_of a b) few e =
      let s = sides names a b e in
      let m = base + length (operations a) in
      let l = top_below base a few s.0 in
      let r = top_below m b (omega arith) s.1 in
      both_in_order base a b (node.product_of (top (place_of names) base a) (top (place_of names) m b)) (tree_in_order base a few s.0) (tree_in_order m b (omega arith) s.1)
      (omega arith, omega arith)

  copy_in_order : (base a : ℕ) (vs : List Node) → a < base + length vs → AllNameEarlier randoms base vs → AllNameEarlier randoms base (or_copy a vs)
  copy_in_order base a [] l h = (omega arith, tt)
  copy_in_order base a (v ∷ vs) l h = h

  -- the nodes of a line stand in order
  pub line_in_order : (t : Tree) → list_all (is_among names) (leaves t) ≡ true → AllNameEarlier randoms (length names) (line_nodes (place_of names) (length names) t)
  line_in_order t e =
      let base = length names in
      let l = top_below base t (omega arith) e in
      let n = length-operation_nodes (place_of names) base t in
      copy_in_order base (top (place_of names) base t) (operation_nodes (place_of names) base t) (omega arith) (tree_in_order base t (omega arith) e)
