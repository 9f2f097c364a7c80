use Rattle.std.proofs.Common.{◌≡◌, ◌++◌, ◌+◌, ◌*◌, map}
use Rattle.std.specs.List.{range_with_len}
use Rattle.gadget_model.specs.Circuit.{share}
use Rattle.gadget_tree.specs.Seen.{variables_of}
use Rattle.gadget_tree.specs.Variables.{share_name}
use Rattle.gadget_tree.proofs.header_vars.push_shares.Given as goal

abbrev pub invariant-loop-index : goal.invariant-loop-index
invariant-loop-index l = variables_of l.vars.items ≡ variables_of l.initial.vars.items ++ map (λ i. record { name = share_name l.stem i; node = share (16 * l.input + i); line = l.line }) (range_with_len 0 l.index)
