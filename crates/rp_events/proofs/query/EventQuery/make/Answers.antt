use Rattle.std.proofs.Common.{map, ap, ◌∙◌, arith}
use Rattle.rp_events.specs.Failing.{shares_in}
use Rattle.wire_table.proofs.WireItems.{few_wires, few_variables-wires, variables_below-wires}
use Rattle.rp_events.proofs.query.EventQuery.make.Goals as goal

pub invariant_of-result : goal.invariant_of-result
invariant_of-result c =
    let g = c.args.gadget.now in
    let is = c.vars-vars.ensures.gadget in
    record {
      gadget = is;
      table = c.requires.table;
      small = c.requires.size;
      event = c.requires.event;
      items = c.in_ok-list.ensures.items;
      few_items = let a = few_wires c.args.wires g in let b = is.few_variables in omega arith;
      few_variables = few_variables-wires c.args.wires g;
      variables = variables_below-wires c.args.wires g;
      weights = c.in_ok-list.ensures.weights;
      lists = c.in_ok-outputs.ensures ∙ ap (map (shares_in g)) c.deref.ensures.value;
    }
