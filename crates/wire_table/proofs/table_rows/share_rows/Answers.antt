use Rattle.std.proofs.Common.{List, ℕ, sym, subst, Vec, Global, Contains}
use Rattle.std.specs.List.{All}
use Rattle.wire_table.specs.declared.terms.Terms.{Terms}
use Rattle.wire_table.specs.ShareRows.{IsShareRow}
use Rattle.wire_table.proofs.Zips.{AllZip-more}
use Rattle.wire_table.proofs.table_rows.share_rows.Goals as goal

pub share_row-requires-clause-among : goal.share_row-requires-clause-among
share_row-requires-clause-among c =
    let products = c.args.products.now in
    let P : Terms → Type 0 = λ t. All (Contains products) t.products.items in
    subst (All (Contains products)) (sym c.deref.ensures.value)
    (subst P (sym c.t-item.is) (c.requires.among c.loop-t.t-index c.t-item.result c.loop-t-test.true))

pub loop-t-preserved : goal.loop-t-preserved
loop-t-preserved c =
    let l = c.loop-t in
    let products = c.args.products.now in
    let R : Terms → Vec ℕ Global → Type 0 = λ t row. IsShareRow products t.products.items row.items in
    let P : List ℕ → Type 0 = λ sets. IsShareRow products sets c.in_ok-share_row.field-0.items in
    AllZip-more R c.args.terms.now l.rows.items c.push.new.self.items l.t-index c.t-item.result c.in_ok-share_row.field-0 c.loop-t-test.true c.t-item.is
    c.in_ok-push.ensures.items l.invariant (subst P c.deref.ensures.value c.in_ok-share_row.ensures)
