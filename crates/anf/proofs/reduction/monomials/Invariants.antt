use Rattle.std.proofs.Common.{◌≡◌, take}
use Rattle.anf.specs.Monomials.{lists_of}
use Rattle.anf.proofs.reduction.monomials.Given as goal

abbrev pub invariant-loop-key : goal.invariant-loop-key
invariant-loop-key l = lists_of l.monomials.items ≡ take l.key-index l.keys
