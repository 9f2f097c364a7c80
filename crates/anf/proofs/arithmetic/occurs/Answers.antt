use Rattle.std.proofs.Common.{ℕ, ◌∙◌, rules, tests}
use Rattle.std.proofs.lemmas.Iterator.{YieldsList-from_slice}
use Rattle.std.proofs.lemmas.Iterator.Search.{any_from_yields_List}
use Rattle.smallvec.specs.SmallVec.{SmallVec}
use Rattle.gadget_model.specs.Polynomials.{stands_in}
use Rattle.anf.proofs.Occurrences.{Occurs-from_answer}
use Rattle.anf.proofs.arithmetic.occurs.Goals as goal

pub returns : goal.returns
returns c =
    let ms = c.p.inside.monomials.items in
    let v = c.args.v in
    Occurs-from_answer ms c.args.p.now v c.any.result c.p.view_is
    (any_from_yields_List (λ (m : SmallVec ℕ). stands_in v m.items) _ _ c.any.result c.any.ensures.ran (YieldsList-from_slice ms (c.iter.ensures.rest ∙ c.deref.ensures.value)) (λ x b q k. search (rules, tests)))
