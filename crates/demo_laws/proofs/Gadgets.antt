-- The gadgets of the demonstration texts.
use Rattle.std.proofs.Common.{ℕ, Bool, true, false, if◌then◌else◌, List, [], ◌∷◌, ◌++◌, ◌+◌, map, length, codes}
use Rattle.std.specs.Prelude.{flat_map}
use Rattle.gadget_model.specs.Circuit.{Node, share, random, sum_of, product_of, Variable, Circuit}
use Rattle.gadget_tree.specs.Variables.{place_of, share_variables, random_variables}
use Rattle.gadget_maker.specs.Texts.{Text, indexed, paired, below, pairs, rising_pairs, sum_steps, random_of}

-- a line that assigns a sum, or else a product, of two names
pub record Operation : Type 0 where
  pub name : Text
  pub is_sum : Bool
  pub left : Text
  pub right : Text

abbrev pub operation : Text → Bool → Text → Text → Operation
operation name is_sum left right = record { name = name; is_sum = is_sum; left = left; right = right }

abbrev pub sums_from : Text → List (Text × Text) → List Operation
sums_from sum [] = []
sums_from sum (step ∷ steps) = operation step.0 true sum step.1 ∷ sums_from step.0 steps

abbrev pub isw_operations : ℕ → List Operation
isw_operations n =
    map (λ p. operation (paired (codes "p") p.0 p.1) false (indexed (codes "a") p.0) (indexed (codes "b") p.1)) (pairs n)
    ++ flat_map (λ p. operation (paired (codes "u") p.0 p.1) true (paired (codes "r") p.0 p.1) (paired (codes "p") p.0 p.1)
    ∷ operation (paired (codes "r") p.1 p.0) true (paired (codes "u") p.0 p.1) (paired (codes "p") p.1 p.0) ∷ []) (rising_pairs n)
    ++ flat_map (λ i. sums_from (paired (codes "p") i i) (sum_steps n (codes "c") (paired (codes "r")) i)) (below n)

abbrev pub refresh_operations : ℕ → List Operation
refresh_operations n = flat_map (λ i. sums_from (indexed (codes "a") i) (sum_steps n (codes "d") random_of i)) (below n)

-- the names of the header variables
abbrev pub random_names : ℕ → List Text
random_names n = map (λ p. paired (codes "r") p.0 p.1) (rising_pairs n)

abbrev pub indexed_names : ℕ → List Text → List Text
indexed_names n stems = flat_map (λ stem. map (indexed stem) (below n)) stems

-- the variables that the operations make, from this line on
abbrev pub node_for : List Text → Operation → Node
node_for names o =
    if o.is_sum then sum_of (place_of names o.left) (place_of names o.right)
    else product_of (place_of names o.left) (place_of names o.right)

abbrev pub variables_for : List Text → ℕ → List Operation → List Variable
variables_for names line [] = []
variables_for names line (o ∷ os) =
    record { name = o.name; node = node_for names o; line = line } ∷ variables_for names (line + 1) os

-- the variables of the headers, whose lines are the second and the third
abbrev pub header_variables_for : ℕ → List Text → List Variable
header_variables_for n inputs = share_variables 2 n 0 inputs ++ random_variables 3 0 (random_names n)

-- the names of all variables
abbrev pub names_for : ℕ → List Text → List Operation → List Text
names_for n inputs os = indexed_names n inputs ++ random_names n ++ map (λ o. o.name) os

-- the gadget that the operations make
unfoldable pub gadget_for : ℕ → List Text → Text → List Operation → Circuit
gadget_for n inputs output os = record {
  shares = n;
  inputs = inputs;
  randoms = length (rising_pairs n);
  outputs = output ∷ [];
  output_shares = map (λ i. place_of (names_for n inputs os) (indexed output i)) (below n);
  variables = header_variables_for n inputs ++ variables_for (names_for n inputs os) 5 os;
}
