use Rattle.std.proofs.Common.{take}
use Rattle.antichain_list.specs.Held.{IsLeastOfBoth}
use Rattle.antichain_list.proofs.codes.least_held.Given as goal

abbrev pub invariant-loop-code : goal.invariant-loop-code
invariant-loop-code l = IsLeastOfBoth l.list (take l.code-index l.codes) l.least
