use Rattle.std.proofs.Common.{ap, sym, ◌∙◌, arith, map}
use Rattle.wire_table.specs.CodeItems.{item_of}
use Rattle.list_laws.proofs.Counts.{one_if}
use Rattle.notions.specs.Notions.{kind_at, is_internal}
use Rattle.notions.proofs.InternalCounts.{kind_at-list, internal_count-more, from_bool-one_if, one_if-le}
use Rattle.notions.proofs.grants.internal_count.Goals as goal

pub loop-item-preserved : goal.loop-item-preserved
loop-item-preserved c =
    let items = map item_of c.args.list.now in
    let there = c.requires.there c.loop-item.item-index 0 c.loop-item-test.true in
    let item = c.index-list-from.result in
    let kind = ap (kind_at items) (sym c.from.ensures) ∙ kind_at-list c.args.list.now c.from.result item (omega arith) c.index-list-from.is in
    let one = c.from-count.ensures ∙ from_bool-one_if c.is_internal.result ∙ ap one_if c.is_internal.ensures in
    let le = one_if-le (is_internal item.kind) c.from-count.result one in
    record {
      count =
          internal_count-more items c.args.tuple.now c.loop-item.item-index item.kind c.loop-item.count c.from-count.result c.loop-item-test.true
          c.loop-item.invariant.count kind one;
      few = omega arith;
    }
