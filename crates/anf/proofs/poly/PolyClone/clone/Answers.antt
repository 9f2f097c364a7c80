use Rattle.std.proofs.Common.{◌∙◌}
use Rattle.anf.proofs.Copies.{sets_of-copies, IsPoly-copies, AreCopies-from_clones}
use Rattle.anf.proofs.poly.PolyClone.clone.Goals as goal

pub invariant_of-result : goal.invariant_of-result
invariant_of-result c =
    let ms = c.self.inside.monomials.items in
    let ws = c.in_ok-clone.field-0.items in
    IsPoly-copies ms ws (AreCopies-from_clones _ (λ x y e. e) ms ws c.in_ok-clone.ensures.cases.0) c.self.invariant

pub returns : goal.returns
returns c =
    let ms = c.self.inside.monomials.items in
    let ws = c.in_ok-clone.field-0.items in
    record {
      cases = sets_of-copies ms ws (AreCopies-from_clones _ (λ x y e. e) ms ws c.in_ok-clone.ensures.cases.0) ∙ c.self.view_is;
    }
