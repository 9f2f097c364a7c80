use Rattle.std.proofs.Common.{length, ap, arith}
use Rattle.wire_table.specs.CodeItems.{ObservesFew}
use Rattle.wire_table.proofs.ItemReads.{fact_at}
use Rattle.needed.proofs.item_scratch.observed_by.Goals as goal

pub unwrap-requires : goal.unwrap-requires
unwrap-requires c =
    let few = fact_at c.args.list.now c.loop-item.item-index c.item-item.result (let there = c.loop-item-test.true in omega arith) c.item-item.is ObservesFew c.requires.few in
    let same = ap length c.as_slice.ensures in
    let none = ap length c.new-vars.ensures in
    c.try_extend_from_slice.ensures.variant.1 (omega arith)
