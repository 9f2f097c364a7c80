use Rattle.std.proofs.Common.{ℕ, Bool, nat_lt, [], All, ap, sym, subst, ◌∙◌, arith, map, length}
use Rattle.std.proofs.lemmas.List.{length-map}
use Rattle.std.proofs.lemmas.Bool.{lt-ltb, le-ltb}
use Rattle.wire_table.specs.CodeItems.{HasSmallWeight, item_of}
use Rattle.wire_table.specs.Items.{Item, weighted_item}
use Rattle.wire_table.specs.Uses.{weight_of}
use Rattle.wire_table.proofs.Monomials.{length-variables_of}
use Rattle.wire_table.proofs.ItemPushes.{push_kept, skip_left}
use Rattle.wire_table.proofs.WireItems.{small_uses, weight-at, items_of_all, few_wires, weights-wires}
use Rattle.wire_table.proofs.leaking_wires.wire_items.Goals as goal
use Rattle.wire_table.proofs.leaking_wires.wire_items.Goals.{then-weight-gt0+in_ok-weighted_item+in_ok-push, else-weight-gt0}

pub wire_count-weight-requires : goal.wire_count-weight-requires
wire_count-weight-requires c =
    let n = length-variables_of c.args.gadget.now c.vars.result.now c.vars.ensures.variables in
    let l = c.loop-var-test.true in
    small_uses c.args.gadget.now c.vars.ensures.gadget c.args.table.now c.requires.table c.loop-var.var (omega arith) c.uses.result c.uses.ensures

pub loop-var-preserved : goal.loop-var-preserved
loop-var-preserved c =
    let g = c.args.gadget.now in
    let wires = c.args.wires in
    let n = c.loop-var.var in
    let all = length-variables_of g c.vars.result.now c.vars.ensures.variables in
    let l = c.loop-var-test.true in
    let weight =
    weight-at g c.vars.ensures.gadget c.args.table.now c.requires.table n (omega arith) c.uses.result c.uses.ensures wires c.out_of.result c.is_some.result
    c.wire_count-weight.result c.out_of.ensures (sym c.is_some.ensures) c.wire_count-weight.ensures in
    let f : ℕ → Item = λ v. weighted_item g (weight_of wires g v) v in
    let leaks : ℕ → Bool = λ v. nat_lt 0 (weight_of wires g v) in
    elim c.if-weight-gt0.branch [
      | then-weight-gt0+in_ok-weighted_item+in_ok-push w ↦
          let some = w.if-weight-gt0.true in
          rw (w.items-is)
          (push_kept f [] n leaks c.loop-var.items.items w.push.new.self.items w.in_ok-weighted_item.field-0 (lt-ltb 0 (weight_of wires g n) (omega arith))
          c.loop-var.invariant (w.in_ok-weighted_item.ensures ∙ ap (λ (k : ℕ). weighted_item g k n) weight) w.in_ok-push.ensures.items)
      | else-weight-gt0 w ↦
          let none = w.if-weight-gt0.false in
          rw (w.items-is) (skip_left f [] n leaks c.loop-var.items.items (le-ltb 0 (weight_of wires g n) (omega arith)) c.loop-var.invariant)
    ]

pub returns-clause-items : goal.returns-clause-items
returns-clause-items c =
    let all = length-variables_of c.args.gadget.now c.vars.result.now c.vars.ensures.variables in
    let l = c.loop-var-test.false in
    let m = c.loop-var.auto.var-end in
    items_of_all c.args.wires c.args.gadget.now c.loop-var.var (map item_of c.loop-var.items.items) (omega arith) c.loop-var.invariant

pub returns-clause-few : goal.returns-clause-few
returns-clause-few c =
    let all = length-variables_of c.args.gadget.now c.vars.result.now c.vars.ensures.variables in
    let l = c.loop-var-test.false in
    let m = c.loop-var.auto.var-end in
    let is = items_of_all c.args.wires c.args.gadget.now c.loop-var.var (map item_of c.loop-var.items.items) (omega arith) c.loop-var.invariant in
    let n = length-map c.loop-var.items.items item_of in
    let same = ap length is in
    let few = few_wires c.args.wires c.args.gadget.now in
    let gadget = c.vars.ensures.gadget in
    let most = gadget.few_variables in
    omega arith

pub returns-clause-weights : goal.returns-clause-weights
returns-clause-weights c =
    let all = length-variables_of c.args.gadget.now c.vars.result.now c.vars.ensures.variables in
    let l = c.loop-var-test.false in
    let m = c.loop-var.auto.var-end in
    let is = items_of_all c.args.wires c.args.gadget.now c.loop-var.var (map item_of c.loop-var.items.items) (omega arith) c.loop-var.invariant in
    subst (All HasSmallWeight) (sym is) (weights-wires c.args.wires c.args.gadget.now c.vars.ensures.gadget)
