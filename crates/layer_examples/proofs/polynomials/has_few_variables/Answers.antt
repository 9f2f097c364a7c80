use Rattle.std.proofs.Common.{◌≡◌, ℕ, ◌≤◌, true, leb, length, ◌∙◌, sym, rules, tests}
use Rattle.std.proofs.lemmas.Bool.{leb-true}
use Rattle.std.proofs.lemmas.Iterator.{YieldsList-from_slice}
use Rattle.std.proofs.lemmas.Iterator.Search.{all_from_yields_List}
use Rattle.std.proofs.lemmas.List.Elements.{All-weaker}
use Rattle.std.proofs.lemmas.List.Sums.{AllPass-from_list_all}
use Rattle.smallvec.specs.SmallVec.{SmallVec}
use Rattle.anf.proofs.FewVariables.{HasFewVariables-from_pairs}
use Rattle.layer_examples.proofs.polynomials.has_few_variables.Goals as goal

pub returns : goal.returns
returns c =
    let ms = c.monomials.result.now in
    let answer = all_from_yields_List (λ (m : SmallVec ℕ). leb (length m.items) 2) _ _ c.all.result c.all.ensures.ran (YieldsList-from_slice ms c.iter.ensures.rest) (λ x b q k. search (rules, tests)) in
    λ is_true. HasFewVariables-from_pairs ms c.args.p.now c.monomials.ensures.sets
    (All-weaker (λ (m : SmallVec ℕ). leb (length m.items) 2 ≡ true) (λ (m : SmallVec ℕ). length m.items ≤ 2) (λ m. leb-true (length m.items) 2) ms
    (AllPass-from_list_all (λ (m : SmallVec ℕ). leb (length m.items) 2) ms (sym answer ∙ is_true)))
