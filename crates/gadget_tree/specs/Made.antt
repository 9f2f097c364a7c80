-- What a line makes, by the steps of its expression in place of its tree.
use Rattle.std.specs.Prelude.{ℕ, ◌+◌, ◌-◌, Bool, true, not, ◌==◌, if◌then◌else◌, nat_lt, max, List, [], ◌∷◌, ◌++◌, map, length, reverse, Result, Ok}
use Rattle.std.specs.List.{list_any, list_all, range_with_len}
use Rattle.gadget_model.specs.Circuit.{Node, Variable}
use Rattle.gadget_model.specs.Circuit as node
use Rattle.gadget_text.specs.declared.file_error.FileError.{FileError}
use Rattle.gadget_text.specs.declared.file_error.FileError.TheVariants.{NameTwice, Unknown, TooMany}
use Rattle.gadget_text.specs.declared.file_error.What.TheVariants.{Variables}
use Rattle.gadget_limits.specs.Limits.{most_variables}
use Rattle.gadget_text.specs.Errors.{refuse, ◌>>◌}
use Rattle.gadget_grammar.specs.Steps.{NamedStep, name, sum, product}
use Rattle.gadget_tree.specs.declared.making.Making as code
use Rattle.gadget_tree.specs.Seen.{node_of}
use Rattle.gadget_tree.specs.Variables.{names_of, is_among, place_of}
use Rattle.gadget_tree.specs.Operations.{inner_name, made_variables}

-- the inner names of a line that makes so many variables
abbrev pub inner_names : List ℕ → ℕ → List (List ℕ)
inner_names x count = map (inner_name x) (range_with_len 1 (count - 1))

-- all names that such a line makes
abbrev pub names_made : List ℕ → ℕ → List (List ℕ)
names_made x count = inner_names x count ++ x ∷ []

-- the k-th of them, counted from 1
abbrev pub name_made : List ℕ → ℕ → ℕ → List ℕ
name_made x count k = if k == count then x else inner_name x k

-- how many of the steps are operations
abbrev pub operation_count : List NamedStep → ℕ
operation_count [] = 0
operation_count (name w ∷ steps) = operation_count steps
operation_count (sum ∷ steps) = operation_count steps + 1
operation_count (product ∷ steps) = operation_count steps + 1

-- how many variables a line with these steps makes
abbrev pub count_made : List NamedStep → ℕ
count_made steps = max (operation_count steps) 1

-- how many of the values that wait a step takes
abbrev pub operand_count : NamedStep → ℕ
operand_count (name w) = 0
operand_count sum = 2
operand_count product = 2

-- the name of a step, if it has one, is among these
abbrev pub is_known : List (List ℕ) → NamedStep → Bool
is_known names (name w) = is_among names w
is_known names sum = true
is_known names product = true

-- the numbers of the variables whose values wait, the last first, and the nodes made so far
pub record Making : Type 0 where
  pub stack : List ℕ
  pub nodes : List Node

-- the code keeps the last number at the end
abbrev pub making_of : code.Making → Making
making_of m = record { stack = reverse m.stack.items; nodes = map node_of m.kinds.items }

-- nothing is made
abbrev pub start : Making
start = record { stack = []; nodes = [] }

-- A node is made, whose number is `base` and how many there were before.
abbrev pub with_node : ℕ → List ℕ → List Node → Node → Making
with_node base stack nodes n = record { stack = (base + length nodes) ∷ stack; nodes = nodes ++ n ∷ [] }

-- the sum of the last two, where there are two
abbrev pub with_sum : ℕ → List ℕ → List Node → Making
with_sum base [] nodes = record { stack = []; nodes = nodes }
with_sum base (a ∷ []) nodes = record { stack = a ∷ []; nodes = nodes }
with_sum base (b ∷ a ∷ stack) nodes = with_node base stack nodes (node.sum_of a b)

-- the product of the last two, where there are two
abbrev pub with_product : ℕ → List ℕ → List Node → Making
with_product base [] nodes = record { stack = []; nodes = nodes }
with_product base (a ∷ []) nodes = record { stack = a ∷ []; nodes = nodes }
with_product base (b ∷ a ∷ stack) nodes = with_node base stack nodes (node.product_of a b)

-- what is made after one more step, where `look` finds names
abbrev pub after_step : (List ℕ → ℕ) → ℕ → Making → NamedStep → Making
after_step look base m (name w) = record { stack = look w ∷ m.stack; nodes = m.nodes }
after_step look base m sum = with_sum base m.stack m.nodes
after_step look base m product = with_product base m.stack m.nodes

-- what is made after these steps
abbrev pub after_steps : (List ℕ → ℕ) → ℕ → Making → List NamedStep → Making
after_steps look base m [] = m
after_steps look base m (step ∷ steps) = after_steps look base (after_step look base m step) steps

-- the nodes, or else a copy of the variable that waits
abbrev pub or_copy_last : List ℕ → List Node → List Node
or_copy_last stack (n ∷ ns) = n ∷ ns
or_copy_last [] [] = []
or_copy_last (a ∷ stack) [] = node.copy a ∷ []

abbrev pub finished : Making → List Node
finished m = or_copy_last m.stack m.nodes

-- the nodes of a line's variables
abbrev pub nodes_made : (List ℕ → ℕ) → ℕ → List NamedStep → List Node
nodes_made look base steps = finished (after_steps look base start steps)

-- the variables after an assignment line with these steps, where these are those before it
abbrev pub with_steps : ℕ → List Variable → List ℕ → List NamedStep → Result (List Variable) FileError
with_steps line earlier x steps = do
  refuse (list_any (is_among (names_of earlier)) (names_made x (count_made steps))) (NameTwice line)
  refuse (not (list_all (is_known (names_of earlier)) steps)) (Unknown line)
  refuse (nat_lt most_variables (length earlier + count_made steps)) (TooMany Variables)
  let nodes = nodes_made (place_of (names_of earlier)) (length earlier) steps
  Ok (earlier ++ made_variables line (names_made x (count_made steps)) nodes)
