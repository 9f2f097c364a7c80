use Rattle.anf.proofs.Orders.{once-IsPoly}
use Rattle.anf.proofs.poly.Poly.monomials.Goals as goal

pub returns-clause-once : goal.returns-clause-once
returns-clause-once c = once-IsPoly _ _ c.self.view_is c.self.invariant
