use Rattle.std.proofs.Common.{Contains}
use Rattle.std.proofs.lemmas.List.Filters.{dedup_is}
use Rattle.std.proofs.lemmas.List.Kept.{Contains-dedup_nat, Contains-from_dedup}
use Rattle.std.proofs.lemmas.List.Sorted.{Contains-permutation, IsPermutation-sym}
use Rattle.std.proofs.lemmas.Map.Keys.{IsStrictlyIncreasing-dedup}
use Rattle.wire_table.proofs.products.products.Goals as goal

pub returns-clause-rising : goal.returns-clause-rising
returns-clause-rising c = rw (dedup_is _ _ _ c.dedup.ensures.filtered) (IsStrictlyIncreasing-dedup _ c.sort_unstable.ensures.sorted)

pub returns-clause-all : goal.returns-clause-all
returns-clause-all c = λ x h.
    let all : Contains c.in_ok-products.products.items x = rw c.in_ok-products.ensures h in
    rw (dedup_is _ _ _ c.dedup.ensures.filtered) (Contains-dedup_nat _ x (Contains-permutation _ _ x c.sort_unstable.ensures.permutation all))

pub returns-clause-no_others : goal.returns-clause-no_others
returns-clause-no_others c = λ x h.
    let is = dedup_is _ _ _ c.dedup.ensures.filtered in
    let all : Contains c.in_ok-products.products.items x =
    Contains-permutation _ _ x (IsPermutation-sym _ _ c.sort_unstable.ensures.permutation) (Contains-from_dedup _ _ x (rw is at h)) in
    rw c.in_ok-products.ensures at all
