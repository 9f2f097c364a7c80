-- The code's variables and lines as the model's.
use Rattle.std.specs.Prelude.{ℕ, ◌+◌, ◌*◌, List, ◌∷◌, map, flat_map}
use Rattle.gadget_model.specs.Circuit.{Node, share, random, copy, sum_of, product_of, Variable}
use Rattle.gadget_tree.specs.declared.var.Var.{Var}
use Rattle.gadget_tree.specs.declared.var.VarKind.{VarKind}
use Rattle.gadget_tree.specs.declared.var.VarKind.TheVariants.{Share, Random, Copy, Sum, Product}

-- a kind as a node: the number of a share has its input and its index
abbrev pub node_of : VarKind → Node
node_of (Share input index) = share (16 * input + index)
node_of (Random k) = random k
node_of (Copy a) = copy a
node_of (Sum a b) = sum_of a b
node_of (Product a b) = product_of a b

abbrev pub variable_of : Var → Variable
variable_of v = record { name = v.name; node = node_of v.kind; line = v.line }

abbrev pub variables_of : List Var → List Variable
variables_of vars = map variable_of vars

-- words with a space in front of each
abbrev pub printed_words : List (List ℕ) → List ℕ
printed_words words = flat_map (λ word. 32 ∷ word) words
