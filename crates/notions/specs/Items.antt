-- The items of a notion: what its sets of probes are made of.
use Rattle.std.specs.Prelude.{ℕ, ◌+◌, ◌*◌, Bool, true, false, if◌then◌else◌, List, ◌++◌, length, map, codes, decimal, slice_index_or, is_none}
use Rattle.std.specs.List.{filter, range_with_len}
use Rattle.gadget_model.specs.Circuit.{Circuit}
use Rattle.wire_table.specs.Items.{Item, numbers, output_index, weighted_item}
use Rattle.wire_table.specs.declared.item.ItemKind.TheVariants.{Output}
use Rattle.notions.specs.declared.notion.Notion.{Notion}
use Rattle.notions.specs.declared.notion.Notion.TheVariants.{Pini}

-- a variable as an item: a probe on one wire
abbrev pub variable_item : Circuit → ℕ → Item
variable_item g v = weighted_item g 1 v

-- a column as an item: the shares with one index of all outputs, observed together
-- (Cassiers and Standaert, IEEE TIFS 2020)
abbrev pub column_item : Circuit → ℕ → Item
column_item g index = record {
  name = codes "*" ++ decimal index;
  variables =
      map (λ output. slice_index_or g.output_shares (g.shares * output + index) 0)
      (range_with_len 0 (length g.outputs));
  kind = Output index;
  weight = 1;
}

-- the variables that are no shares of outputs
abbrev pub inner_numbers : Circuit → List ℕ
inner_numbers g = filter (λ v. is_none (output_index g v)) (numbers g)

-- PINI asks of columns in place of the shares of outputs.
abbrev pub has_columns : Notion → Bool
has_columns Pini = true
has_columns _ = false

-- the variables that are no shares of outputs, and then the columns
abbrev pub items_with_columns : Circuit → List Item
items_with_columns g = map (variable_item g) (inner_numbers g) ++ map (column_item g) (range_with_len 0 g.shares)

-- The items of a notion: those, or else each variable.
unfoldable pub items_of : Notion → Circuit → List Item
items_of notion g = if has_columns notion then items_with_columns g else map (variable_item g) (numbers g)
