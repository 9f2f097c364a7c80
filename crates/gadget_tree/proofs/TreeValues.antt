-- The values of a tree's operations, where the variables from some number on have their nodes.
use Rattle.std.proofs.Common.{◌≡◌, ◌+◌, ℕ, Bool, true, ◌&&◌, List, [], ◌∷◌, ◌++◌, length, ◌∙◌, subst, arith, length-append}
use Rattle.std.specs.List.{list_all}
use Rattle.std.proofs.lemmas.Bool.{and_parts}
use Rattle.gadget_model.specs.Bits.{add}
use Rattle.gadget_model.specs.Circuit.{Node, value_of}
use Rattle.gadget_model.specs.Circuit as node
use Rattle.gadget_grammar.specs.Grammar.{Tree, named, parens, sum_of, product_of}
use Rattle.gadget_grammar.specs.Steps.{Meaning, tree_value}
use Rattle.gadget_tree.specs.Variables.{is_among}
use Rattle.gadget_tree.specs.Operations.{operations, or_copied, line_parts, leaves, top, operation_nodes, or_copy, line_nodes}
use Rattle.gadget_tree.proofs.Numbered.{AllFrom, AllFrom-append, AllFrom-append_left, AllFrom-append_right}
use Rattle.gadget_tree.proofs.Nodes.{length-operation_nodes, sides}

-- variable k has the value that the node gives, where these are the values of the variables
abbrev pub HasNode : (ℕ → Bool) → List Bool → (ℕ → Bool) → ℕ → Node → Type 0
HasNode x r have k v = have k ≡ value_of x r have v

-- in a tree names mean these values
abbrev meaning : (List ℕ → Bool) → Meaning Bool
meaning of_name = record { of_name = of_name; of_sum = add; of_product = λ a b. a && b }

-- variable k has the value of the tree, where names have these values
abbrev pub HasTree : (ℕ → Bool) → (List ℕ → Bool) → ℕ → Tree → Type 0
HasTree have of_name k t = have k ≡ tree_value (meaning of_name) t

-- `have` says the values of variables, and `of_name` those of names, each of which is the value of the variable that `look` finds
module _ (x : ℕ → Bool) (r : List Bool) (have : ℕ → Bool) (names : List (List ℕ)) (look : List ℕ → ℕ) (of_name : List ℕ → Bool) (same : (w : List ℕ) → is_among names w ≡ true → have (look w) ≡ of_name w) where
  -- the values of a tree and of its operations
  abbrev HasParts : ℕ → Tree → Type 0
  HasParts base t = AllFrom (HasTree have of_name) base (operations t) × HasTree have of_name (top look base t) t

  -- an operation after those of both sides
  both_values : (base : ℕ) (a b t : Tree) (v : Node) →
      AllFrom (HasNode x r have) base (operation_nodes look base a ++ operation_nodes look (base + length (operations a)) b ++ v ∷ []) →
      (AllFrom (HasNode x r have) base (operation_nodes look base a) → HasParts base a) →
      (AllFrom (HasNode x r have) (base + length (operations a)) (operation_nodes look (base + length (operations a)) b) → HasParts (base + length (operations a)) b) →
      (HasTree have of_name (top look base a) a → HasTree have of_name (top look (base + length (operations a)) b) b →
      value_of x r have v ≡ tree_value (meaning of_name) t) →
      AllFrom (HasTree have of_name) base (operations a ++ operations b ++ t ∷ []) × HasTree have of_name (base + length (operations a) + length (operations b)) t
  both_values base a b t v h left right last =
      let N = HasNode x r have in
      let T = HasTree have of_name in
      let m = base + length (operations a) in
      let xs = operation_nodes look base a in
      let ys = operation_nodes look m b in
      let i = length-operation_nodes look base a in
      let j = length-operation_nodes look m b in
      let both = AllFrom-append_left N base (xs ++ ys) (v ∷ []) h in
      let behind : base + length xs ≡ m = omega arith in
      let at : base + length (xs ++ ys) ≡ m + length (operations b) = omega (arith, length-append xs ys) in
      let l = left (AllFrom-append_left N base xs ys both) in
      let k = right (subst (λ n. AllFrom N n ys) behind (AllFrom-append_right N base xs ys both)) in
      let e = (subst (λ n. AllFrom N n (v ∷ [])) at (AllFrom-append_right N base (xs ++ ys) (v ∷ []) h)).0 ∙ last l.1 k.1 in
      let to : m + length (operations b) ≡ base + length (operations a ++ operations b) = omega (arith, length-append (operations a) (operations b)) in (
        AllFrom-append T base (operations a ++ operations b) (t ∷ []) (AllFrom-append T base (operations a) (operations b) l.0 k.0) (subst (λ n. AllFrom T n (t ∷ [])) to (e, tt)),
        e,
      )

  -- where the variables from some number on have the nodes of a tree's operations, they have the values of these, and the
  -- variable of the tree has its value
  tree_values : (base : ℕ) (t : Tree) → list_all (is_among names) (leaves t) ≡ true → AllFrom (HasNode x r have) base (operation_nodes look base t) → HasParts base t
  tree_values base (named w) known h = (tt, same w (and_parts (is_among names w) true known).0)
  tree_values base (parens t) known h = tree_values base t known h
  tree_values base (sum_of a b) known h =
      let m = base + length (operations a) in
      let s = sides names a b known in
      both_values base a b (sum_of a b) (node.sum_of (top look base a) (top look m b)) h (tree_values base a s.0) (tree_values m b s.1) (λ e f. cc)
  tree_values base (product_of a b) known h =
      let m = base + length (operations a) in
      let s = sides names a b known in
      both_values base a b (product_of a b) (node.product_of (top look base a) (top look m b)) h (tree_values base a s.0) (tree_values m b s.1) (λ e f. cc)

  -- a tree without operations is copied
  copy_values : (base a : ℕ) (t : Tree) (parts : List Tree) (vs : List Node) → length vs ≡ length parts → AllFrom (HasNode x r have) base (or_copy a vs) →
      (AllFrom (HasNode x r have) base vs → AllFrom (HasTree have of_name) base parts × HasTree have of_name a t) → AllFrom (HasTree have of_name) base (or_copied t parts)
  copy_values base a t [] [] e h parts_have = (h.0 ∙ (parts_have tt).1, tt)
  copy_values base a t [] (v ∷ vs) e h parts_have = absurd (omega arith)
  copy_values base a t (part ∷ parts) [] e h parts_have = absurd (omega arith)
  copy_values base a t (part ∷ parts) (v ∷ vs) e h parts_have = (parts_have h).0

  -- the variables of a line have the values of its parts
  pub part_values : (base : ℕ) (t : Tree) → list_all (is_among names) (leaves t) ≡ true → AllFrom (HasNode x r have) base (line_nodes look base t) → AllFrom (HasTree have of_name) base (line_parts t)
  part_values base t known h =
      copy_values base (top look base t) t (operations t) (operation_nodes look base t) (length-operation_nodes look base t) h (tree_values base t known)
