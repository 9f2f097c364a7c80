use Rattle.std.proofs.Common.{◌-◌, ◌↔◌, IsTrue, leb, map, sym, subst, bit_and}
use Rattle.std.specs.Int.Count.{ones}
use Rattle.wire_table.specs.CodeItems.{item_of}
use Rattle.notions.specs.declared.notion.Notion.{Notion}
use Rattle.notions.specs.Notions.{Grants, internal_count}
use Rattle.notions.proofs.OtherIndices.{few_others}
use Rattle.notions.proofs.grants.is_granted.Goals as goal

pub returns-in-Pini : goal.returns-in-Pini
returns-in-Pini c = λ g e.
    let items = map item_of c.args.list.now in
    let P : Notion → Type 0 = λ notion.
    IsTrue (leb (ones (bit_and c.indices.result (65535 - c.output_indices.result))) c.internal_count-in-Pini.result)
    ↔ Grants notion g c.args.t items c.args.tuple.now c.args.set in
    subst P (sym c.in-Pini.is)
    (few_others g items c.args.tuple.now c.args.inputs c.args.set c.indices.result c.output_indices.result (internal_count items c.args.tuple.now) e
    c.indices.ensures c.output_indices.ensures c.indices.type_inv c.output_indices.type_inv c.internal_count-in-Pini.result c.internal_count-in-Pini.ensures)
