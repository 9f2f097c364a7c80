-- The operations of an assignment line: those of its tree, in post-order, the left operand's first.
use Rattle.std.specs.Prelude.{ℕ, ◌+◌, ◌-◌, List, [], ◌∷◌, ◌++◌, map, length, codes, decimal}
use Rattle.std.specs.List.{range_with_len}
use Rattle.gadget_model.specs.Circuit.{Node, Variable}
use Rattle.gadget_model.specs.Circuit as node
use Rattle.gadget_grammar.specs.Grammar.{Tree, named, parens, sum_of, product_of}

-- the sums and products in a tree, in post-order
abbrev pub operations : Tree → List Tree
operations (named name) = []
operations (parens t) = operations t
operations (sum_of a b) = operations a ++ operations b ++ sum_of a b ∷ []
operations (product_of a b) = operations a ++ operations b ++ product_of a b ∷ []

-- the same, but a tree that has none is itself the one operation, a copy
abbrev pub or_copied : Tree → List Tree → List Tree
or_copied t [] = t ∷ []
or_copied t (part ∷ parts) = part ∷ parts

-- the parts of a tree that a line makes variables of
abbrev pub line_parts : Tree → List Tree
line_parts t = or_copied t (operations t)

-- the k-th inner name of a line that assigns to a name
abbrev pub inner_name : List ℕ → ℕ → List ℕ
inner_name name k = name ++ codes "." ++ decimal k

-- the names that a line gives to its variables: the last has the name on the left, and the others are numbered from 1
abbrev pub line_names : List ℕ → Tree → List (List ℕ)
line_names name t = map (inner_name name) (range_with_len 1 (length (line_parts t) - 1)) ++ name ∷ []

-- the names in a tree
abbrev pub leaves : Tree → List (List ℕ)
leaves (named name) = name ∷ []
leaves (parens t) = leaves t
leaves (sum_of a b) = leaves a ++ leaves b
leaves (product_of a b) = leaves a ++ leaves b

-- the number of the variable that has a tree's value, where `look` finds names, and the tree's operations have numbers
-- from `base` on
abbrev pub top : (List ℕ → ℕ) → ℕ → Tree → ℕ
top look base (named name) = look name
top look base (parens t) = top look base t
top look base (sum_of a b) = base + length (operations a) + length (operations b)
top look base (product_of a b) = base + length (operations a) + length (operations b)

-- the nodes of a tree's operations
abbrev pub operation_nodes : (List ℕ → ℕ) → ℕ → Tree → List Node
operation_nodes look base (named name) = []
operation_nodes look base (parens t) = operation_nodes look base t
operation_nodes look base (sum_of a b) =
    operation_nodes look base a ++ operation_nodes look (base + length (operations a)) b
    ++ node.sum_of (top look base a) (top look (base + length (operations a)) b) ∷ []
operation_nodes look base (product_of a b) =
    operation_nodes look base a ++ operation_nodes look (base + length (operations a)) b
    ++ node.product_of (top look base a) (top look (base + length (operations a)) b) ∷ []

abbrev pub or_copy : ℕ → List Node → List Node
or_copy a [] = node.copy a ∷ []
or_copy a (n ∷ ns) = n ∷ ns

-- the nodes of a line's variables
abbrev pub line_nodes : (List ℕ → ℕ) → ℕ → Tree → List Node
line_nodes look base t = or_copy (top look base t) (operation_nodes look base t)

-- variables that a line makes, with these names and nodes
abbrev pub made_variables : ℕ → List (List ℕ) → List Node → List Variable
made_variables line [] nodes = []
made_variables line (name ∷ names) [] = []
made_variables line (name ∷ names) (n ∷ nodes) =
    record { name = name; node = n; line = line } ∷ made_variables line names nodes
