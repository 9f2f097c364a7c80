-- The canonical text of a gadget: its headers, and then each operation on a line of its own.
use Rattle.std.specs.Prelude.{◌≡◌, ℕ, List, [], ◌∷◌, ◌++◌, flat_map, codes, decimal}
use Rattle.std.specs.List.{join_with_byte}
use Rattle.gadget_model.specs.Circuit.{Node, share, random, copy, sum_of, product_of, Variable, Circuit, nodes}
use Rattle.gadget_tree.specs.Variables.{names_of, name_at}

-- the name of a variable, where it is a random
abbrev pub random_name : List ℕ → Node → List (List ℕ)
random_name name (share k) = []
random_name name (random k) = name ∷ []
random_name name (copy a) = []
random_name name (sum_of a b) = []
random_name name (product_of a b) = []

-- the names of the randoms among variables
abbrev pub randoms_among : List Variable → List (List ℕ)
randoms_among variables = flat_map (λ v. random_name v.name v.node) variables

-- the line `#RANDOMS`, where there are any
abbrev pub randoms_line : List (List ℕ) → List (List (List ℕ))
randoms_line [] = []
randoms_line (name ∷ names) = (codes "#RANDOMS" ∷ name ∷ names) ∷ []

-- the line of a variable that is an operation: `x = a`, `x = a + b` or `x = a * b`
abbrev pub operation_line : List Variable → List ℕ → Node → List (List (List ℕ))
operation_line variables x (share k) = []
operation_line variables x (random k) = []
operation_line variables x (copy a) = (x ∷ codes "=" ∷ name_at variables a ∷ []) ∷ []
operation_line variables x (sum_of a b) =
    (x ∷ codes "=" ∷ name_at variables a ∷ codes "+" ∷ name_at variables b ∷ []) ∷ []
operation_line variables x (product_of a b) =
    (x ∷ codes "=" ∷ name_at variables a ∷ codes "*" ∷ name_at variables b ∷ []) ∷ []

-- the lines of the operations among variables, whose operands are among all of them
abbrev pub operations_among : List Variable → List Variable → List (List (List ℕ))
operations_among all variables = flat_map (λ v. operation_line all v.name v.node) variables

-- the words of each line of the canonical text
abbrev pub canonical_lines : Circuit → List (List (List ℕ))
canonical_lines g =
    (codes "#SHARES" ∷ decimal g.shares ∷ []) ∷ (codes "#IN" ∷ g.inputs) ∷ randoms_line (randoms_among g.variables)
    ++ (codes "#OUT" ∷ g.outputs) ∷ [] ++ operations_among g.variables g.variables

-- a line of words: one space stands between them, and it ends with a line feed
abbrev pub printed_line : List (List ℕ) → List ℕ
printed_line words = join_with_byte 32 words ++ 10 ∷ []

-- lines of words
abbrev pub printed_lines : List (List (List ℕ)) → List ℕ
printed_lines lines = flat_map printed_line lines

-- the canonical text
unfoldable pub canonical_text : Circuit → List ℕ
canonical_text g = printed_lines (canonical_lines g)

-- two gadgets are equal apart from the lines of their variables
pub record AreEqualButForLines (g h : Circuit) : Type 0 where
  pub shares : g.shares ≡ h.shares
  pub inputs : g.inputs ≡ h.inputs
  pub randoms : g.randoms ≡ h.randoms
  pub outputs : g.outputs ≡ h.outputs
  pub output_shares : g.output_shares ≡ h.output_shares
  pub same_names : names_of g.variables ≡ names_of h.variables
  pub same_nodes : nodes g ≡ nodes h
