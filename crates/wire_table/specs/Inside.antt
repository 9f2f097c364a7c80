-- A table's fields as plain data.
use Rattle.std.specs.Prelude.{map}
use Rattle.wire_table.specs.declared.table.WireTable.TheInside.{Inside}
use Rattle.wire_table.specs.Tables.{Table}

abbrev pub table_of : Inside → Table
table_of t = record {
  random_rows = t.random_rows.items;
  share_rows = map (λ row. row.items) t.share_rows.items;
  products = t.products.items;
  uses = t.uses.items;
}
