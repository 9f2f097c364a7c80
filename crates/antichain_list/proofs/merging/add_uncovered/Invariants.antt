use Rattle.std.proofs.Common.{take}
use Rattle.antichain_list.specs.Held.{Gains}
use Rattle.antichain_list.proofs.merging.add_uncovered.Given as goal

abbrev pub invariant-loop-code : goal.invariant-loop-code
invariant-loop-code l = Gains l.fn.codes.items (take l.code-index l.list) l.others l.codes.items
