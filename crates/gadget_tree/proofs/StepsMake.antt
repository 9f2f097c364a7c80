-- What the steps of a line make.
use Rattle.std.proofs.Common.{◌≡◌, ◌≤◌, ◌+◌, ℕ, Bool, true, ◌&&◌, List, [], ◌∷◌, ◌++◌, length, length-append, map, refl, sym, ap, subst, ◌∙◌, append_assoc, append-nil, arith}
use Rattle.std.specs.Prelude.{max, All}
use Rattle.std.specs.List.{list_all}
use Rattle.std.proofs.Math.Bool.{and-true}
use Rattle.std.proofs.lemmas.List.{length-map}
use Rattle.std.proofs.lemmas.List.Elements.{All-nil, All-cons, All-head, All-tail}
use Rattle.std.proofs.lemmas.List.Folds.{list_all-append}
use Rattle.gadget_model.specs.Circuit.{Node}
use Rattle.gadget_model.specs.Circuit as node
use Rattle.gadget_grammar.specs.Grammar.{Tree, named, parens, sum_of, product_of}
use Rattle.gadget_grammar.specs.Steps.{NamedStep, name, sum, product, postfix}
use Rattle.gadget_tree.specs.declared.making.Making as code
use Rattle.gadget_tree.specs.declared.var.VarKind.{VarKind}
use Rattle.gadget_tree.specs.Seen.{node_of}
use Rattle.gadget_tree.specs.Variables.{is_among}
use Rattle.gadget_tree.specs.Operations.{operations, or_copied, line_parts, leaves, top, operation_nodes, or_copy, line_nodes}
use Rattle.gadget_tree.specs.Gadgets.{IsOperationNode}
use Rattle.gadget_tree.proofs.Nodes.{length-operation_nodes, length-line_nodes, line_nodes_are}
use Rattle.gadget_tree.specs.Made.{operation_count, count_made, is_known, Making, with_node, after_step, after_steps, making_of, or_copy_last, finished, nodes_made}

-- a step makes at most as many nodes as it is operations
step-room : (look : List ℕ → ℕ) (base : ℕ) (stack : List ℕ) (nodes : List Node) (step : NamedStep) (steps : List NamedStep) →
    length (after_step look base (record { stack = stack; nodes = nodes }) step).nodes + operation_count steps ≤ length nodes + operation_count (step ∷ steps)
step-room look base stack nodes (name w) steps = omega arith
step-room look base [] nodes sum steps = omega arith
step-room look base (a ∷ []) nodes sum steps = omega arith
step-room look base (b ∷ a ∷ stack) nodes sum steps = simp length-append (omega arith)
step-room look base [] nodes product steps = omega arith
step-room look base (a ∷ []) nodes product steps = omega arith
step-room look base (b ∷ a ∷ stack) nodes product steps = simp length-append (omega arith)

pub kinds-room : (look : List ℕ → ℕ) (base total : ℕ) (old now : code.Making) (step : NamedStep) (steps : List NamedStep) → making_of now ≡ after_step look base (making_of old) step →
    length old.kinds.items + operation_count (step ∷ steps) ≤ total → length now.kinds.items + operation_count steps ≤ total
kinds-room look base total old now step steps e h =
    let r = step-room look base (making_of old).stack (making_of old).nodes step steps in
    let n = ap (λ (m : Making). length m.nodes) e in
    omega (arith, r, n, length-map now.kinds.items node_of, length-map old.kinds.items node_of, h)

-- steps one after the other
after_steps-append : (look : List ℕ → ℕ) (base : ℕ) (m : Making) (xs ys : List NamedStep) → after_steps look base m (xs ++ ys) ≡ after_steps look base (after_steps look base m xs) ys
after_steps-append look base m [] ys = refl
after_steps-append look base m (x ∷ xs) ys = after_steps-append look base (after_step look base m x) xs ys

-- what is made after the steps of a tree, where these numbers wait and these nodes were made before
abbrev behind : (List ℕ → ℕ) → ℕ → List ℕ → List Node → Tree → Making
behind look next stack nodes t = record { stack = top look next t ∷ stack; nodes = nodes ++ operation_nodes look next t }

-- two operands, and then the operation
operated : (look : List ℕ → ℕ) (base next : ℕ) (stack : List ℕ) (nodes : List Node) (a b : Tree) (n : Node) → next ≡ base + length nodes →
    with_node base stack ((nodes ++ operation_nodes look next a) ++ operation_nodes look (next + length (operations a)) b) n
    ≡ record { stack = (next + length (operations a) + length (operations b)) ∷ stack; nodes = nodes ++ (operation_nodes look next a ++ operation_nodes look (next + length (operations a)) b ++ n ∷ []) }
operated look base next stack nodes a b n e =
    let on_a = operation_nodes look next a in
    let on_b = operation_nodes look (next + length (operations a)) b in
    let k = length-operation_nodes look next a in
    let m = length-operation_nodes look (next + length (operations a)) b in
    let number : base + length ((nodes ++ on_a) ++ on_b) ≡ next + length (operations a) + length (operations b) = simp length-append (omega (arith, k, m, e)) in
    let whole : ((nodes ++ on_a) ++ on_b) ++ n ∷ [] ≡ nodes ++ ((on_a ++ on_b) ++ n ∷ []) = simp append_assoc in
    ap (λ (k : ℕ). let r : Making = record { stack = k ∷ stack; nodes = ((nodes ++ on_a) ++ on_b) ++ n ∷ [] } in r) number
    ∙ ap (λ (ns : List Node). let r : Making = record { stack = (next + length (operations a) + length (operations b)) ∷ stack; nodes = ns } in r) whole

-- the steps of a tree make its nodes, and leave the number of its value
made-postfix : (look : List ℕ → ℕ) (base next : ℕ) (stack : List ℕ) (nodes : List Node) (t : Tree) → next ≡ base + length nodes →
    after_steps look base (record { stack = stack; nodes = nodes }) (postfix t) ≡ behind look next stack nodes t
made-postfix look base next stack nodes (named w) e = ap (λ (ns : List Node). let r : Making = record { stack = look w ∷ stack; nodes = ns } in r) (sym (append-nil nodes))
made-postfix look base next stack nodes (parens t) e = made-postfix look base next stack nodes t e
made-postfix look base next stack nodes (sum_of a b) e =
    let on_a = operation_nodes look next a in
    let k = length-operation_nodes look next a in
    after_steps-append look base (record { stack = stack; nodes = nodes }) (postfix a ++ postfix b) (sum ∷ [])
    ∙ ap (λ (m : Making). after_steps look base m (sum ∷ [])) (after_steps-append look base (record { stack = stack; nodes = nodes }) (postfix a) (postfix b)
    ∙ ap (λ (m : Making). after_steps look base m (postfix b)) (made-postfix look base next stack nodes a e)
    ∙ made-postfix look base (next + length (operations a)) (top look next a ∷ stack) (nodes ++ on_a) b (simp length-append (omega (arith, k, e))))
    ∙ operated look base next stack nodes a b (node.sum_of (top look next a) (top look (next + length (operations a)) b)) e
made-postfix look base next stack nodes (product_of a b) e =
    let on_a = operation_nodes look next a in
    let k = length-operation_nodes look next a in
    after_steps-append look base (record { stack = stack; nodes = nodes }) (postfix a ++ postfix b) (product ∷ [])
    ∙ ap (λ (m : Making). after_steps look base m (product ∷ [])) (after_steps-append look base (record { stack = stack; nodes = nodes }) (postfix a) (postfix b)
    ∙ ap (λ (m : Making). after_steps look base m (postfix b)) (made-postfix look base next stack nodes a e)
    ∙ made-postfix look base (next + length (operations a)) (top look next a ∷ stack) (nodes ++ on_a) b (simp length-append (omega (arith, k, e))))
    ∙ operated look base next stack nodes a b (node.product_of (top look next a) (top look (next + length (operations a)) b)) e

-- a tree without operations is copied
finished-copy : (a : ℕ) (ns : List Node) → or_copy_last (a ∷ []) ns ≡ or_copy a ns
finished-copy a [] = refl
finished-copy a (n ∷ ns) = refl

-- the nodes that the steps of a tree make are those of its line
pub nodes-postfix : (look : List ℕ → ℕ) (base : ℕ) (t : Tree) → nodes_made look base (postfix t) ≡ line_nodes look base t
nodes-postfix look base t = ap finished (made-postfix look base base [] [] t (omega arith)) ∙ finished-copy (top look base t) (operation_nodes look base t)

-- how many operations the steps of a tree have
operation_count-append : (xs ys : List NamedStep) → operation_count (xs ++ ys) ≡ operation_count xs + operation_count ys
operation_count-append [] ys = omega arith
operation_count-append (name w ∷ xs) ys = operation_count-append xs ys
operation_count-append (sum ∷ xs) ys = let h = operation_count-append xs ys in omega arith
operation_count-append (product ∷ xs) ys = let h = operation_count-append xs ys in omega arith

operation_count-postfix : (t : Tree) → operation_count (postfix t) ≡ length (operations t)
operation_count-postfix (named w) = refl
operation_count-postfix (parens t) = operation_count-postfix t
operation_count-postfix (sum_of a b) =
    let n = operation_count-postfix a in
    let m = operation_count-postfix b in
    simp (operation_count-append, length-append) (omega (arith, n, m))
operation_count-postfix (product_of a b) =
    let n = operation_count-postfix a in
    let m = operation_count-postfix b in
    simp (operation_count-append, length-append) (omega (arith, n, m))

-- how many variables the line of a tree makes
pub count-postfix : (t : Tree) → count_made (postfix t) ≡ length (line_parts t)
count-postfix t = ap (λ (n : ℕ). max n 1) (operation_count-postfix t) ∙ by_parts (operations t) where
  by_parts : (parts : List Tree) → max (length parts) 1 ≡ length (or_copied t parts)
  by_parts [] = refl
  by_parts (part ∷ parts) = omega arith

-- the names in the steps of a tree are those in the tree
known-append : (names : List (List ℕ)) (a b : Tree) (step : NamedStep) → is_known names step ≡ true → list_all (is_known names) (postfix a) ≡ list_all (is_among names) (leaves a) →
    list_all (is_known names) (postfix b) ≡ list_all (is_among names) (leaves b) → list_all (is_known names) (postfix a ++ postfix b ++ step ∷ []) ≡ list_all (is_among names) (leaves a ++ leaves b)
known-append names a b step known e f =
    list_all-append (is_known names) (postfix a ++ postfix b) (step ∷ [])
    ∙ ap (λ (x : Bool). list_all (is_known names) (postfix a ++ postfix b) && (x && true)) known
    ∙ and-true (list_all (is_known names) (postfix a ++ postfix b))
    ∙ list_all-append (is_known names) (postfix a) (postfix b) ∙ ap (λ (x : Bool). x && list_all (is_known names) (postfix b)) e
    ∙ ap (λ (x : Bool). list_all (is_among names) (leaves a) && x) f ∙ sym (list_all-append (is_among names) (leaves a) (leaves b))

pub known-postfix : (names : List (List ℕ)) (t : Tree) → list_all (is_known names) (postfix t) ≡ list_all (is_among names) (leaves t)
known-postfix names (named w) = refl
known-postfix names (parens t) = known-postfix names t
known-postfix names (sum_of a b) = known-append names a b sum refl (known-postfix names a) (known-postfix names b)
known-postfix names (product_of a b) = known-append names a b product refl (known-postfix names a) (known-postfix names b)

-- what holds of all images holds of the elements
pub All-from_map : {X Y : Type 0} (P : Y → Type 0) (f : X → Y) (xs : List X) → All P (map f xs) → All (λ x. P (f x)) xs
All-from_map P f [] h = All-nil (λ x. P (f x))
All-from_map P f (x ∷ xs) h = All-cons (λ y. P (f y)) x xs (All-head P (f x) (map f xs) h) (All-from_map P f xs (All-tail P (f x) (map f xs) h))

-- what holds of the kinds of a line
pub kinds-operations : (look : List ℕ → ℕ) (base : ℕ) (kinds : List VarKind) (t : Tree) → map node_of kinds ≡ nodes_made look base (postfix t) → All (λ kind. IsOperationNode (node_of kind)) kinds
kinds-operations look base kinds t e =
    All-from_map IsOperationNode node_of kinds (subst (λ (ns : List Node). All IsOperationNode ns) (sym (e ∙ nodes-postfix look base t)) (line_nodes_are look base t))

pub kinds-count : (look : List ℕ → ℕ) (base : ℕ) (kinds : List VarKind) (t : Tree) → map node_of kinds ≡ nodes_made look base (postfix t) → length kinds ≡ count_made (postfix t)
kinds-count look base kinds t e = sym (length-map kinds node_of) ∙ ap length (e ∙ nodes-postfix look base t) ∙ length-line_nodes look base t ∙ sym (count-postfix t)
