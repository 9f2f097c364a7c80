use Rattle.needed.proofs.elimination.Elimination.truncate.Goals as goal

pub invariant_of-self : goal.invariant_of-self
invariant_of-self c = c.truncate.ensures.held c.self.inside.table.now c.self.inside.scratch c.self.invariant
