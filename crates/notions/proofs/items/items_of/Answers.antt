use Rattle.std.proofs.Common.{◌++◌, List, map, ap, sym, ◌∙◌}
use Rattle.std.specs.List.{range_with_len}
use Rattle.wire_table.specs.Items.{Item, numbers}
use Rattle.wire_table.specs.CodeItems.{item_of}
use Rattle.notions.specs.Items.{variable_item, column_item, inner_numbers}
use Rattle.notions.proofs.ItemLists.{items_of-with_columns, items_of-all}
use Rattle.notions.proofs.items.items_of.Goals as goal
use Rattle.notions.proofs.items.items_of.Goals.{then-has_columns+in_ok-extend_inner+in_ok-extend_columns, else-has_columns+in_ok-extend_variables}

pub returns : goal.returns
returns c =
    let g = c.args.gadget.now in
    let none = ap (map item_of) c.new-items.ensures.items in
    elim c.if-has_columns.branch [
      | then-has_columns+in_ok-extend_inner+in_ok-extend_columns w ↦
          rw (w.items-is)
          (items_of-with_columns c.args.notion g (map item_of w.extend_columns.new.items.items) (sym c.has_columns.ensures ∙ w.if-has_columns.true)
          (w.in_ok-extend_columns.ensures
          ∙ ap (λ (items : List Item). items ++ map (column_item g) (range_with_len 0 g.shares))
          (w.in_ok-extend_inner.ensures ∙ ap (λ (items : List Item). items ++ map (variable_item g) (inner_numbers g)) none)))
      | else-has_columns+in_ok-extend_variables w ↦
          rw (w.items-is)
          (items_of-all c.args.notion g (map item_of w.extend_variables.new.items.items) (sym c.has_columns.ensures ∙ w.if-has_columns.false)
          (w.in_ok-extend_variables.ensures ∙ ap (λ (items : List Item). items ++ map (variable_item g) (numbers g)) none))
    ]
