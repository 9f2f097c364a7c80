-- A gadget's fields as the model's plain data.
use Rattle.gadget_model.specs.Circuit.{Circuit}
use Rattle.gadget_tree.specs.declared.gadget.Gadget.TheInside.{Inside}
use Rattle.gadget_tree.specs.declared.gadget.Parts.{Parts}
use Rattle.gadget_tree.specs.Seen.{variables_of}

abbrev pub circuit_of : Inside → Circuit
circuit_of g = record {
  shares = g.shares;
  inputs = g.inputs.items;
  randoms = g.randoms;
  outputs = g.outputs.items;
  output_shares = g.output_shares.items;
  variables = variables_of g.vars.items;
}

abbrev pub circuit_of_parts : Parts → Circuit
circuit_of_parts p = record {
  shares = p.shares;
  inputs = p.inputs.items;
  randoms = p.randoms;
  outputs = p.outputs.items;
  output_shares = p.output_shares.items;
  variables = variables_of p.vars.items;
}
