use Rattle.wire_table.proofs.ShareRows.{found, found_at}
use Rattle.wire_table.proofs.table_rows.place.Goals as goal

pub unwrap-requires : goal.unwrap-requires
unwrap-requires c = found c.args.products.now c.args.set c.binary_search.result c.requires.rising c.requires.among c.binary_search.ensures.position

pub returns-clause-at : goal.returns-clause-at
returns-clause-at c =
    (found_at c.args.products.now c.args.set c.binary_search.result c.unwrap.result c.requires.rising c.binary_search.ensures.position c.unwrap.ensures).1
