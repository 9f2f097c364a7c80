use Rattle.std.proofs.Common.{sym, ◌∙◌}
use Rattle.antichain_list.proofs.Coded.{map-code_of}
use Rattle.antichain_list.proofs.antichain.Antichain.tuples.Goals as goal

pub returns-clause-codes : goal.returns-clause-codes
returns-clause-codes c = rw (← c.self.view_is) (c.deref.ensures.value ∙ sym (map-code_of c.self.inside.codes.items c.self.invariant.held.coded))
