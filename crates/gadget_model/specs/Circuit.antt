-- A gadget as plain data, a masked circuit over GF(2) written flat, and the values on its wires
-- (Ishai, Sahai and Wagner, CRYPTO 2003).
use Rattle.std.specs.Prelude.{◌≡◌, ℕ, ◌<◌, Bool, false, ◌&&◌, List, [], ◌∷◌, ◌++◌, map, length, slice_index_or, Some, slice_get}
use Rattle.gadget_model.specs.Bits.{add}

-- How a variable gets its value: it is an input share, a random, a copy of a variable, or a sum or a product of two.
-- Share i of input k has the number 16 * k + i. A random and an operand go by their numbers.
pub data Node : Type 0 where
  share : ℕ → Node
  random : ℕ → Node
  copy : ℕ → Node
  sum_of : ℕ → ℕ → Node
  product_of : ℕ → ℕ → Node

-- A variable is a wire. Its name and the line that made it are for reports and refusals.
pub record Variable : Type 0 where
  pub name : List ℕ
  pub node : Node
  pub line : ℕ

-- A gadget: into how many shares a secret is split, the names of its inputs, the number of its randoms, the names of
-- its outputs, the variable of each output share (by output, then by index), and its variables in the order of
-- evaluation.
pub record Circuit : Type 0 where
  pub shares : ℕ
  pub inputs : List (List ℕ)
  pub randoms : ℕ
  pub outputs : List (List ℕ)
  pub output_shares : List ℕ
  pub variables : List Variable

abbrev pub nodes : Circuit → List Node
nodes g = map (λ v. v.node) g.variables

-- The value that a node gives, for inputs x, an assignment r of the randoms, and the values of the earlier variables.
abbrev pub value_of : (ℕ → Bool) → List Bool → (ℕ → Bool) → Node → Bool
value_of x r earlier (share k) = x k
value_of x r earlier (random k) = slice_index_or r k false
value_of x r earlier (copy a) = earlier a
value_of x r earlier (sum_of a b) = add (earlier a) (earlier b)
value_of x r earlier (product_of a b) = earlier a && earlier b

-- What is computed of the wires one after the other: what there is already, and after it what each further node gives,
-- from what the earlier wires have and from its own number. A wire that isn't there has `none`.
abbrev pub wires_from : {A : Type 0} → A → ((ℕ → A) → ℕ → Node → A) → List A → List Node → List A
wires_from none give done [] = done
wires_from none give done (v ∷ vs) =
    wires_from none give (done ++ give (λ k. slice_index_or done k none) (length done) v ∷ []) vs

-- the value of a wire
unfoldable pub value : Circuit → (ℕ → Bool) → List Bool → ℕ → Bool
value g x r v =
    slice_index_or (wires_from false (λ earlier number node. value_of x r earlier node) [] (nodes g)) v false

-- what a node names is there: operands are among the n earlier variables, a random is one of the gadget's
abbrev pub NamesEarlier : ℕ → ℕ → Node → Type 0
NamesEarlier randoms n (share k) = Unit {0}
NamesEarlier randoms n (random k) = k < randoms
NamesEarlier randoms n (copy a) = a < n
NamesEarlier randoms n (sum_of a b) = (a < n) × (b < n)
NamesEarlier randoms n (product_of a b) = (a < n) × (b < n)

-- the variables stand in an order of evaluation
abbrev pub IsInOrder : Circuit → Type 0
IsInOrder g = (k : ℕ) (v : Node) → slice_get (nodes g) k ≡ Some v → NamesEarlier g.randoms k v
