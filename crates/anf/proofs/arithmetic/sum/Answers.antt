use Rattle.std.proofs.Common.{◌≡◌, ℕ, ◌<◌, ◌≤◌, ◌++◌, List, map, length, ap, sym, ◌∙◌, subst}
use Rattle.std.proofs.lemmas.Result.{IfOk-weaker, on_ok_weaker}
use Rattle.gadget_limits.specs.Limits.{most_monomials}
use Rattle.gadget_model.specs.Polynomials.{symmetric_difference, odd_ones}
use Rattle.anf.specs.Polynomials.{IsSetOf, set_of}
use Rattle.anf.specs.Monomials.{sets_of}
use Rattle.list_laws.proofs.Once.{Once}
use Rattle.anf.proofs.Orders.{once-IsPoly}
use Rattle.anf.proofs.SymmetricDifferences.{IsSetOf-symmetric_difference, length-symmetric_difference}
use Rattle.anf.proofs.arithmetic.sum.Goals as goal

-- the keys are those of the monomials of both
both : (c : goal.After-odd_ones) → map set_of c.in_ok-keys.keys.items ≡ c.args.a.now ++ c.args.b.now
both c =
    c.in_ok-keys.ensures.sets
    ∙ ap (λ (p : List ℕ). p ++ sets_of c.deref-2.result.now) (ap sets_of c.deref.ensures.value ∙ c.a.view_is)
    ∙ ap (λ (p : List ℕ). c.args.a.now ++ p) (ap sets_of c.deref-2.ensures.value ∙ c.b.view_is)

once_a : (c : goal.After-odd_ones) → Once c.args.a.now
once_a c = once-IsPoly _ _ c.a.view_is c.a.invariant

once_b : (c : goal.After-odd_ones) → Once c.args.b.now
once_b c = once-IsPoly _ _ c.b.view_is c.b.invariant

same_length : (c : goal.After-odd_ones) → length (symmetric_difference c.args.a.now c.args.b.now) ≡ length (odd_ones (map set_of c.in_ok-keys.keys.items))
same_length c = length-symmetric_difference _ _ _ (both c) (once_a c) (once_b c)

pub returns-clause-sum : goal.returns-clause-sum
returns-clause-sum c =
    let all = map set_of c.in_ok-keys.keys.items in
    IfOk-weaker c.odd_ones.result (IsSetOf (odd_ones all)) (IsSetOf (symmetric_difference c.args.a.now c.args.b.now))
    (λ r h. IsSetOf-symmetric_difference _ _ all r (both c) (once_a c) (once_b c) h)
    c.odd_ones.ensures.odd

pub returns-clause-few : goal.returns-clause-few
returns-clause-few c = on_ok_weaker c.odd_ones.result (λ h. subst (λ (n : ℕ). n ≤ most_monomials) (sym (same_length c)) h) c.odd_ones.ensures.few

pub returns-clause-too_wide : goal.returns-clause-too_wide
returns-clause-too_wide c = λ e. subst (λ (n : ℕ). most_monomials < n) (sym (same_length c)) (c.odd_ones.ensures.too_wide e)
