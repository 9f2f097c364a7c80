use Rattle.std.proofs.Common.{◌≡◌, ℕ, List, map, ap, sym, ◌∙◌, subst, arith}
use Rattle.std.specs.List.Sorted.{IsPermutation}
use Rattle.std.proofs.lemmas.List.Sorted.{All-permutation}
use Rattle.gadget_model.specs.Polynomials.{odd_ones}
use Rattle.anf.specs.Polynomials.{IsSetOf, set_of}
use Rattle.anf.specs.Keys.{HaveKey}
use Rattle.anf.proofs.OddOnes.{IsSetOf-from_sorted, length-from_sorted}
use Rattle.anf.proofs.Orders.{once-from_keys, sets-of_lists, IsPoly-from_keys}
use Rattle.anf.proofs.reduction.odd_ones.Goals as goal

-- a list that was read through a reference is a permutation too
along : (xs ys zs : List (List ℕ)) → zs ≡ ys → IsPermutation xs ys → IsPermutation xs zs
along xs ys zs e h = subst (IsPermutation xs) (sym e) h

pub sum_of_sorted-requires-clause-keys : goal.sum_of_sorted-requires-clause-keys
sum_of_sorted-requires-clause-keys c = All-permutation HaveKey _ _ (along _ _ _ c.deref.ensures.value c.sort_unstable.ensures.permutation) c.requires

pub returns-then-len-gt-MOST_MONOMIALS-clause-too_wide : goal.returns-then-len-gt-MOST_MONOMIALS-clause-too_wide
returns-then-len-gt-MOST_MONOMIALS-clause-too_wide c =
    let sum = c.in_ok-kept.ensures in
    let moves = along _ _ _ c.deref.ensures.value c.sort_unstable.ensures.permutation in
    let e = length-from_sorted _ _ _ moves (once-from_keys _ sum.keys sum.rising) sum.parities in
    λ _. omega (arith, e, c.in_ok-kept.kept.ok.0)

pub invariant_of-result : goal.invariant_of-result
invariant_of-result c =
    let sum = c.in_ok-kept.ensures in
    IsPoly-from_keys _ _ (c.in_ok-monomials.ensures ∙ c.deref-2.ensures.value) sum.keys sum.rising (omega (arith, c.in_ok-kept.kept.ok.0))

pub returns-clause-odd : goal.returns-clause-odd
returns-clause-odd c =
    let sum = c.in_ok-kept.ensures in
    let moves = along _ _ _ c.deref.ensures.value c.sort_unstable.ensures.permutation in
    let same = sym (ap (map set_of) (c.in_ok-monomials.ensures ∙ c.deref-2.ensures.value)) ∙ sets-of_lists c.in_ok-monomials.field-0.items in
    subst (IsSetOf (odd_ones (map set_of c.args.keys.items))) same (IsSetOf-from_sorted _ _ _ moves (once-from_keys _ sum.keys sum.rising) sum.parities)

pub returns-clause-few : goal.returns-clause-few
returns-clause-few c =
    let sum = c.in_ok-kept.ensures in
    let moves = along _ _ _ c.deref.ensures.value c.sort_unstable.ensures.permutation in
    let e = length-from_sorted _ _ _ moves (once-from_keys _ sum.keys sum.rising) sum.parities in
    omega (arith, e, c.in_ok-kept.kept.ok.0)
