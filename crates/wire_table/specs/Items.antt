-- What sets of probes, or of leaking wires, are made of.
use Rattle.std.specs.Prelude.{ℕ, ◌%◌, ◌==◌, List, [], ◌∷◌, length, map, flat_map, slice_index_or, Option, Some, None, option_map}
use Rattle.std.specs.List.{position, range_with_len}
use Rattle.gadget_model.specs.Circuit.{Circuit}
use Rattle.gadget_tree.specs.Variables.{name_at}
use Rattle.wire_table.specs.declared.item.ItemKind.{ItemKind}
use Rattle.wire_table.specs.declared.item.ItemKind.TheVariants.{Internal, Output}

-- An item: its name in reports, the variables that it observes, whether it is a share of an output, and for how many
-- wires it stands.
pub record Item : Type 0 where
  pub name : List ℕ
  pub variables : List ℕ
  pub kind : ItemKind
  pub weight : ℕ

-- the variables of a tuple's items, one item after the other
abbrev pub variables_in : List Item → List ℕ → List ℕ
variables_in items t = flat_map (λ i. slice_index_or (map (λ item. item.variables) items) i []) t

-- the index of the share of an output that a variable is, where it is one
abbrev pub output_index : Circuit → ℕ → Option ℕ
output_index g v = option_map (λ place. place % g.shares) (position (λ share. share == v) g.output_shares)

-- a share of an output with this index, or none
abbrev pub kind_of : Option ℕ → ItemKind
kind_of None = Internal
kind_of (Some index) = Output index

-- a variable as an item that stands for so many wires
abbrev pub weighted_item : Circuit → ℕ → ℕ → Item
weighted_item g weight v = record {
  name = name_at g.variables v;
  variables = v ∷ [];
  kind = kind_of (output_index g v);
  weight = weight;
}

-- the numbers of the gadget's variables
abbrev pub numbers : Circuit → List ℕ
numbers g = range_with_len 0 (length g.variables)
