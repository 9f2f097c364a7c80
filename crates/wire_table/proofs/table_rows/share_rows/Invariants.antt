use Rattle.std.proofs.Common.{take}
use Rattle.std.specs.List.{AllZip}
use Rattle.wire_table.specs.ShareRows.{IsShareRow}
use Rattle.wire_table.proofs.table_rows.share_rows.Given as goal

abbrev pub invariant-loop-t : goal.invariant-loop-t
invariant-loop-t l = AllZip (λ t row. IsShareRow l.products t.products.items row.items) (take l.t-index l.terms) l.rows.items
