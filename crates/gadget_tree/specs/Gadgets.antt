-- What holds of each gadget that the code makes.
use Rattle.std.specs.Prelude.{◌≡◌, ◌≢◌, ℕ, ◌+◌, ◌*◌, ◌<◌, ◌≤◌, IsTrue, List, ◌++◌, map, length, slice_index, All, AllPairs, Contains, Option, Some, None}
use Rattle.gadget_limits.specs.Limits.{most_shares, most_inputs, most_outputs, most_randoms, most_variables}
use Rattle.gadget_model.specs.Circuit.{Node, share, random, copy, sum_of, product_of, Variable, Circuit, nodes, IsInOrder}
use Rattle.gadget_tree.specs.declared.var.Var.{Var}
use Rattle.gadget_tree.specs.declared.var.VarKind.{VarKind}
use Rattle.gadget_tree.specs.declared.var.VarKind.TheVariants.{Share, Random, Copy, Sum, Product}
use Rattle.gadget_text.specs.Names.{is_stem, is_name}
use Rattle.gadget_tree.specs.Variables.{share_names, share_variables, random_variables, names_of, name_at, AreDistinct}

-- share k is an input share of the gadget: its number has an input and an index
abbrev pub IsInputShare : Circuit → ℕ → Type 0
IsInputShare g k = (input : ℕ) × (index : ℕ) × (input < length g.inputs) × (index < g.shares) × (k ≡ 16 * input + index)

-- a node that is a copy, a sum or a product
abbrev pub IsOperationNode : Node → Type 0
IsOperationNode (share k) = ⊥
IsOperationNode (random k) = ⊥
IsOperationNode (copy a) = Unit {0}
IsOperationNode (sum_of a b) = Unit {0}
IsOperationNode (product_of a b) = Unit {0}

-- a node that is a share is an input share of the gadget
abbrev pub IsNumberedNode : Circuit → Node → Type 0
IsNumberedNode g (share k) = IsInputShare g k
IsNumberedNode g (random k) = Unit {0}
IsNumberedNode g (copy a) = Unit {0}
IsNumberedNode g (sum_of a b) = Unit {0}
IsNumberedNode g (product_of a b) = Unit {0}

-- a kind that is a share is one of so many inputs, each of which has so many shares
abbrev pub IsShareBelow : ℕ → ℕ → VarKind → Type 0
IsShareBelow inputs shares (Share input index) = (input < inputs) × (index < shares)
IsShareBelow inputs shares (Random k) = Unit {0}
IsShareBelow inputs shares (Copy a) = Unit {0}
IsShareBelow inputs shares (Sum a b) = Unit {0}
IsShareBelow inputs shares (Product a b) = Unit {0}

-- A variable that is a share has an input and an index of the gadget. With its number, 16 * input + index, that says
-- which input and which index they are.
abbrev pub HasShareOf : Circuit → Var → Type 0
HasShareOf g v = IsShareBelow (length g.inputs) g.shares v.kind

-- a variable that is an operation, under a name that may be assigned
pub record IsOperation (v : Variable) : Type 0 where
  pub name : IsTrue (is_name v.name)
  pub node : IsOperationNode v.node

-- The variables are the input shares, the randoms and then operations. Shares and randoms are named by stems, and input
-- shares, randoms and output shares have names of their own.
pub record IsLaidOut
    (g : Circuit) (input_line random_line : ℕ) (randoms : List (List ℕ)) (operations : List Variable) : Type 0 where
  pub variables :
      g.variables
      ≡ share_variables input_line g.shares 0 g.inputs ++ random_variables random_line 0 randoms ++ operations
  pub all_operations : All IsOperation operations
  pub count_randoms : g.randoms ≡ length randoms
  pub input_stems : All (λ w. IsTrue (is_stem w)) g.inputs
  pub random_stems : All (λ w. IsTrue (is_stem w)) randoms
  pub output_stems : All (λ w. IsTrue (is_stem w)) g.outputs
  pub distinct_headers : AreDistinct (share_names g.shares g.inputs ++ randoms ++ share_names g.shares g.outputs)

-- a gadget within the limits, with names of their own for its variables, in order of evaluation, in which each output
-- share is the variable of its name, no variable is two output shares, and the variables are input shares, randoms and
-- then operations
pub record IsGadget (g : Circuit) : Type 0 where
  pub some_shares : 1 ≤ g.shares
  pub few_shares : g.shares ≤ most_shares
  pub some_inputs : 1 ≤ length g.inputs
  pub few_inputs : length g.inputs ≤ most_inputs
  pub some_outputs : 1 ≤ length g.outputs
  pub few_outputs : length g.outputs ≤ most_outputs
  pub few_randoms : g.randoms ≤ most_randoms
  pub few_variables : length g.variables ≤ most_variables
  pub distinct_names : AreDistinct (names_of g.variables)
  pub in_order : IsInOrder g
  pub shares_numbered : All (IsNumberedNode g) (nodes g)
  pub all_outputs : length g.output_shares ≡ length g.outputs * g.shares
  pub outputs_exist : All (λ v. v < length g.variables) g.output_shares
  pub distinct_outputs : AllPairs (λ v w. v ≢ w) g.output_shares
  pub outputs_named : share_names g.shares g.outputs ≡ map (name_at g.variables) g.output_shares
  pub laid_out :
      (input_line : ℕ) × (random_line : ℕ) × (randoms : List (List ℕ)) × (operations : List Variable)
      × IsLaidOut g input_line random_line randoms operations

-- Which share of which output variable v is: none, where it is no output share.
abbrev pub IsOutOf : Circuit → ℕ → Option (ℕ × ℕ) → Type 0
IsOutOf g v None = Contains g.output_shares v → ⊥
IsOutOf g v (Some (output, index)) =
    (output < length g.outputs) × (index < g.shares) × (slice_index g.output_shares (g.shares * output + index) ≡ v)
