use Rattle.std.proofs.Common.{◌≡◌, ℕ, ◌^◌, List, [], ◌∷◌, ◌++◌, ap, ◌∙◌}
use Rattle.std.specs.Int.Bits.{or_zero_r}
use Rattle.smallvec.specs.SmallVec.{SmallVec}
use Rattle.anf.specs.Polynomials.{set_of}
use Rattle.anf.specs.Monomials.{sets_of}
use Rattle.anf.proofs.poly.Poly.variable.Goals as goal

pub returns-clause-variable : goal.returns-clause-variable
returns-clause-variable c =
    let v = c.args.v in
    let monomial : c.push.new.self.items ≡ v ∷ [] = c.in_ok-push.ensures.ok ∙ ap (λ (vs : List ℕ). vs ++ v ∷ []) c.new-monomial.ensures.items in
    let monomials : c.push-2.new.self.items ≡ c.push.new.self ∷ [] = c.in_ok-push-2.ensures.items ∙ ap (λ (ms : List (SmallVec ℕ)). ms ++ c.push.new.self ∷ []) c.new-monomials.ensures.items in
    ap sets_of monomials ∙ ap (λ (vs : List ℕ). set_of vs ∷ []) monomial ∙ ap (λ (s : ℕ). s ∷ []) (or_zero_r (2 ^ v))
