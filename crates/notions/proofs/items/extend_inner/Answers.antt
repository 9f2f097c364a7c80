use Rattle.std.proofs.Common.{ℕ, map, ◌∙◌}
use Rattle.std.specs.Prelude.{is_none}
use Rattle.wire_table.specs.Items.{output_index}
use Rattle.wire_table.specs.CodeItems.{item_of}
use Rattle.notions.specs.Items.{variable_item}
use Rattle.wire_table.proofs.ItemPushes.{push_kept, skip_left}
use Rattle.wire_table.proofs.OutputPlaces.{is_inner}
use Rattle.notions.proofs.items.extend_inner.Goals as goal
use Rattle.notions.proofs.items.extend_inner.Goals.{then-is_none+in_ok-weighted_item+in_ok-push, else-is_none}

pub loop-var-preserved : goal.loop-var-preserved
loop-var-preserved c =
    let g = c.args.gadget.now in
    let p = λ (v : ℕ). is_none (output_index g v) in
    let inner = is_inner g c.vars.ensures.gadget c.loop-var.var c.out_of.result c.is_none.result c.out_of.ensures c.is_none.ensures in
    let f = variable_item g in
    let before = map item_of c.args.items.now.items in
    let n = c.loop-var.var in
    elim c.if-is_none.branch [
      | then-is_none+in_ok-weighted_item+in_ok-push w ↦
          rw (w.items-is)
          (push_kept f before n p c.loop-var.items.items w.push.new.self.items w.in_ok-weighted_item.field-0 (inner ∙ w.if-is_none.true) c.loop-var.invariant
          w.in_ok-weighted_item.ensures w.in_ok-push.ensures.items)
      | else-is_none w ↦ rw (w.items-is) (skip_left f before n p c.loop-var.items.items (inner ∙ w.if-is_none.false) c.loop-var.invariant)
    ]
