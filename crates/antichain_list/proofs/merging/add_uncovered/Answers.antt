use Rattle.std.proofs.Common.{List, ℕ, IsTrue, arith, subst, take, take_all, sym, ◌+◌}
use Rattle.antichain_list.specs.Held.{Gains, NoneWithin}
use Rattle.antichain_list.proofs.Staying.{Gains-none, Gains-kept, Gains-skipped}
use Rattle.antichain_list.proofs.merging.add_uncovered.Goals as goal
use Rattle.antichain_list.proofs.merging.add_uncovered.Goals.{then-has_none_within+in_ok-push, else-has_none_within}

pub loop-code-preserved : goal.loop-code-preserved
loop-code-preserved c =
    let old = c.args.codes.now.items in
    let list = c.args.list.now in
    let others = c.args.others.now in
    let l = c.loop-code in
    elim c.if-has_none_within.branch [
      | then-has_none_within+in_ok-push w ↦
          let r = Gains-kept old list others l.codes.items l.code-index c.loop-code-test.true l.invariant (c.has_none_within.ensures.0 w.if-has_none_within.true) in
          rw (w.codes-is, w.in_ok-push.ensures.items) r
      | else-has_none_within w ↦
          let r = Gains-skipped old list others l.codes.items l.code-index c.loop-code-test.true l.invariant
          (λ none. let e = c.has_none_within.ensures.1 none in let f = w.if-has_none_within.false in cc) in
          rw w.codes-is r
    ]

pub returns : goal.returns
returns c =
    let P : List ℕ → Type 0 = λ xs. Gains c.args.codes.now.items xs c.args.others.now c.loop-code.codes.items in
    subst P (take_all c.loop-code.code-index c.args.list.now (omega arith)) c.loop-code.invariant
