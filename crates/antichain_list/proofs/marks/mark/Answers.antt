use Rattle.std.proofs.Common.{get_or, arith, true, ◌∙◌}
use Rattle.std.proofs.lemmas.List.{get_or_default, length-set}
use Rattle.tuple_model.proofs.Rising.{IsRising-member}
use Rattle.antichain_list.proofs.Marking.{marked-more}
use Rattle.antichain_list.proofs.marks.mark.Goals as goal

pub loop-item-preserved : goal.loop-item-preserved
loop-item-preserved c =
    let t = c.items-item-items.result.now in
    let i = c.loop-item.item-index in
    let l = c.loop-item-test.true in
    let marks = c.loop-item.marks in
    let tuple = rw (← c.items-item-items.ensures.items) at c.items-item-items.ensures.tuple in
    let r = IsRising-member 0 511 t (get_or t i 0) tuple.rising (i, l, get_or_default t i (get_or t i 0) 0 l) in
    let w = c.loop-item.invariant.wide in
    rw c.from.ensures (record {
      wide = length-set marks (get_or t i 0) true ∙ w;
      marked = marked-more c.args.marks.now marks t i l (omega arith) c.loop-item.invariant.marked;
    })
