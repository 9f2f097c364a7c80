use Rattle.std.proofs.Common.{map}
use Rattle.wire_table.specs.CodeItems.{item_of}
use Rattle.notions.specs.Items.{column_item}
use Rattle.wire_table.proofs.ItemPushes.{push_next}
use Rattle.notions.proofs.items.extend_columns.Goals as goal

pub loop-index-preserved : goal.loop-index-preserved
loop-index-preserved c =
    push_next (column_item c.args.gadget.now) (map item_of c.args.items.now.items) c.loop-index.index c.loop-index.items.items c.push.new.self.items
    c.in_ok-column_item.field-0 c.loop-index.invariant c.in_ok-column_item.ensures c.in_ok-push.ensures.items
