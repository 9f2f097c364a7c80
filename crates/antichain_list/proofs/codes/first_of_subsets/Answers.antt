use Rattle.std.proofs.Common.{arith, take}
use Rattle.antichain_list.proofs.Coded.{IsNonDecreasing-from_codes}
use Rattle.antichain_list.proofs.Lookup.{AreSubsetCodes, AreSubsetCodes-take, IsFirstSubset-from_least, uncovered-from_none}
use Rattle.antichain_list.proofs.codes.first_of_subsets.Goals as goal

pub least_held-requires : goal.least_held-requires
least_held-requires c = IsNonDecreasing-from_codes c.args.list.now c.requires

pub returns-in_err-code-clause-none : goal.returns-in_err-code-clause-none
returns-in_err-code-clause-none c =
    let t = c.args.t.now in
    let all = c.subset_codes-subsets.result in
    let count = c.subset_count.result in
    let subsets : AreSubsetCodes t (take count all) = AreSubsetCodes-take t all count c.subset_count.ensures.count (omega arith) c.subset_codes-subsets.ensures.codes in
    rw c.from_residual.ensures (uncovered-from_none c.args.list.now t (take count all) c.requires c.subset_count.ensures.tuple subsets c.in_err-code.ensures)

pub returns-clause-first : goal.returns-clause-first
returns-clause-first c =
    let t = c.args.t.now in
    let all = c.subset_codes-subsets.result in
    let count = c.subset_count.result in
    let subsets : AreSubsetCodes t (take count all) = AreSubsetCodes-take t all count c.subset_count.ensures.count (omega arith) c.subset_codes-subsets.ensures.codes in
    rw c.tuple_of.ensures
    (IsFirstSubset-from_least c.args.list.now t (take count all) c.requires c.subset_count.ensures.tuple subsets c.in_ok-code.code c.in_ok-code.ensures)
