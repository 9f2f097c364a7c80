use Rattle.std.proofs.Common.{sym}
use Rattle.wire_table.specs.Items.{Item}
use Rattle.wire_table.specs.CodeItems.{item_of}
use Rattle.wire_counts.specs.Limits.{most_weight}
use Rattle.wire_counts.proofs.Walks.{weight-at}
use Rattle.wire_counts.proofs.binomials.binomials_of.Goals as goal

pub make-requires : goal.make-requires
make-requires c =
    weight-at (λ (item : Item). item.weight) item_of c.args.items.now c.loop-item.item-index c.item-item.result most_weight
    c.loop-item-test.true (sym c.item-item.is) c.requires
