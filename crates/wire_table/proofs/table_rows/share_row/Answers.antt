use Rattle.std.proofs.Common.{◌≡◌, ℕ, ◌+◌, List, take, length, get_or, sym, ap, ◌∙◌, subst, arith}
use Rattle.std.proofs.lemmas.List.{length-set, get_or_default}
use Rattle.wire_table.specs.ShareRows.{flipped, IsShareRow}
use Rattle.wire_table.proofs.ShareRows.{IsShareRow-nil, IsShareRow-more, whole_write}
use Rattle.wire_table.proofs.table_rows.share_row.Goals as goal

pub loop-set-init : goal.loop-set-init
loop-set-init c = IsShareRow-nil c.args.products.now c.in_ok-row.row.items c.in_ok-row.ensures

pub loop-set-preserved : goal.loop-set-preserved
loop-set-preserved c =
    let l = c.loop-set in
    let place = c.place.result in
    let set = get_or c.args.sets.now l.set-index 0 in
    let e : c.flip.new.row ≡ flipped l.row.items place = c.flip.ensures ∙ ap (λ (row : List ℕ). flipped row place) c.deref_mut.ensures.value in
    let n = ap (λ (row : List ℕ). length row) e ∙ length-set l.row.items _ _ in
    let P : List ℕ → Type 0 = λ row. IsShareRow c.args.products.now (take (l.set-index + 1) c.args.sets.now) row in
    subst P (sym (whole_write l.row.items c.flip.new.row l.row.len (omega arith) n))
    (IsShareRow-more c.args.products.now c.args.sets.now l.row.items c.flip.new.row l.set-index set place l.invariant c.loop-set-test.true
    (get_or_default c.args.sets.now l.set-index 0 set c.loop-set-test.true) c.place.ensures.within c.place.ensures.at e)
