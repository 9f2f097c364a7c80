use Rattle.notions.proofs.ItemLists.{few_items, few_variables, variables_below, small_indices}
use Rattle.notions.proofs.query.NotionQuery.make.Goals as goal

pub invariant_of-result : goal.invariant_of-result
invariant_of-result c =
    let g = c.args.gadget.now in
    let is = c.vars-vars.ensures.gadget in
    record {
      gadget = is;
      table = c.requires.table;
      order = c.requires.order;
      items = c.in_ok-list.ensures;
      few_items = few_items g is c.args.notion;
      few_variables = few_variables g is c.args.notion;
      variables = variables_below g is c.args.notion;
      indices = small_indices g is c.args.notion;
    }
