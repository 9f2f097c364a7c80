use Rattle.std.proofs.Common.{map}
use Rattle.wire_table.specs.CodeItems.{item_of}
use Rattle.notions.specs.Items.{variable_item}
use Rattle.wire_table.proofs.ItemPushes.{push_next}
use Rattle.notions.proofs.items.extend_variables.Goals as goal

pub loop-var-preserved : goal.loop-var-preserved
loop-var-preserved c =
    push_next (variable_item c.args.gadget.now) (map item_of c.args.items.now.items) c.loop-var.var c.loop-var.items.items c.push.new.self.items
    c.in_ok-weighted_item.field-0 c.loop-var.invariant c.in_ok-weighted_item.ensures c.in_ok-push.ensures.items
