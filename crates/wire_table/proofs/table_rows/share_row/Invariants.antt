use Rattle.std.proofs.Common.{take}
use Rattle.wire_table.specs.ShareRows.{IsShareRow}
use Rattle.wire_table.proofs.table_rows.share_row.Given as goal

abbrev pub invariant-loop-set : goal.invariant-loop-set
invariant-loop-set l = IsShareRow l.products (take l.set-index l.sets) l.row.items
