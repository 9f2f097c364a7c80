use Rattle.std.proofs.Common.{◌+◌, ◌-◌, ◌/◌, ◌<◌, length, arith}
use Rattle.gadget_tree.specs.NameOrder.{name_in}
use Rattle.gadget_tree.specs.Seen.{variables_of}
use Rattle.gadget_tree.proofs.NameOrder.{compared-before, compared-other, up-to, from-there}
use Rattle.gadget_tree.proofs.name_order.rank.Goals as goal

pub loop-low-preserved-then-is_lt : goal.loop-low-preserved-then-is_lt
loop-low-preserved-then-is_lt c =
    let vs = variables_of c.args.vars.now in
    let numbers = c.args.numbers.now in
    let name = c.args.name.now in
    let middle = c.loop-low.low + (c.loop-low.high - c.loop-low.low) / 2 in
    let inside : middle < length numbers = omega (arith, c.loop-low.invariant.within, c.loop-low-test.true) in
    let here = compared-before c.name_of.result.now (name_in vs numbers middle) name c.compare.result c.is_lt.result c.name_of.ensures c.compare.ensures c.is_lt.ensures c.if-is_lt.true in
    record {
      ordered = omega (arith, c.loop-low-test.true);
      within = c.loop-low.invariant.within;
      before = up-to vs numbers name middle c.requires.in_order inside here;
      others = c.loop-low.invariant.others;
    }

pub loop-low-preserved : goal.loop-low-preserved
loop-low-preserved c =
    let vs = variables_of c.args.vars.now in
    let numbers = c.args.numbers.now in
    let name = c.args.name.now in
    let middle = c.loop-low.low + (c.loop-low.high - c.loop-low.low) / 2 in
    let inside : middle < length numbers = omega (arith, c.loop-low.invariant.within, c.loop-low-test.true) in
    let here = compared-other c.name_of.result.now (name_in vs numbers middle) name c.compare.result c.is_lt.result c.name_of.ensures c.compare.ensures c.is_lt.ensures c.if-is_lt.false in
    record {
      ordered = omega arith;
      within = omega (arith, inside);
      before = c.loop-low.invariant.before;
      others = from-there vs numbers name middle c.requires.in_order inside here;
    }
