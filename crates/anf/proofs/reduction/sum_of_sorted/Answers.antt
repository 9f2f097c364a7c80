use Rattle.std.proofs.Common.{ℕ, ◌+◌, List, sym, subst, arith}
use Rattle.anf.proofs.Cancelling.{IsSumSoFar, IsSumSoFar-more, IsSumSoFar-all}
use Rattle.anf.proofs.reduction.sum_of_sorted.Goals as goal

pub loop-key-preserved : goal.loop-key-preserved
loop-key-preserved c =
    let all = c.args.sorted.now in
    let i = c.loop-key.key-index in
    let more = IsSumSoFar-more all c.loop-key.kept.items i c.key-item.result c.loop-key-test.true c.key-item.is c.requires.sorted c.requires.keys c.loop-key.invariant in
    let P : List (List ℕ) → Type 0 = λ kept. IsSumSoFar all kept (i + 1) in
    subst P (sym c.in_ok-add.ensures) more

pub returns-clause-parities : goal.returns-clause-parities
returns-clause-parities c =
    let all = c.args.sorted.now in
    IsSumSoFar-all all c.loop-key.kept.items c.loop-key.key-index (omega (arith, c.loop-key-test.false, c.loop-key.auto.key-index-end)) c.loop-key.invariant
