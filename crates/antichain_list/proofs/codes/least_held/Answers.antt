use Rattle.std.proofs.Common.{arith, subst, sym, ℕ, Option, take, ◌+◌}
use Rattle.antichain_list.specs.Held.{IsLeastOfBoth}
use Rattle.antichain_list.proofs.Least.{IsLeastOfBoth-skip, IsLeastOfBoth-higher, IsLeastOfBoth-lower, IsLeastOfBoth-all}
use Rattle.antichain_list.proofs.codes.least_held.Goals as goal
use Rattle.antichain_list.proofs.codes.least_held.Goals.{then-is_lower+then-has, else-is_lower, else-is_lower-via-then-is_lower+else-has, else-is_lower-via-else-is_lower}

pub loop-code-preserved : goal.loop-code-preserved
loop-code-preserved c =
    let P : Option ℕ → Type 0 = λ o. IsLeastOfBoth c.args.list.now (take (c.loop-code.code-index + 1) c.args.codes.now) o in
    let i = c.loop-code.invariant in
    let l = c.loop-code-test.true in
    elim c.if-is_lower.branch [
      | then-is_lower+then-has w ↦ subst P (sym w.least-is)
          (IsLeastOfBoth-lower c.args.list.now c.args.codes.now c.loop-code.code-index c.loop-code.least l i (c.is_lower.ensures.0 w.if-is_lower.true) (w.has.ensures.0 w.if-has.true))
      | else-is_lower w ↦ subst P (sym w.least-is) (elim w.else-is_lower.branch [
        | else-is_lower-via-then-is_lower+else-has w' ↦
            IsLeastOfBoth-skip c.args.list.now c.args.codes.now c.loop-code.code-index c.loop-code.least l i (λ k. let e = w'.has.ensures.1 k in cc)
        | else-is_lower-via-else-is_lower w' ↦
            IsLeastOfBoth-higher c.args.list.now c.args.codes.now c.loop-code.code-index c.loop-code.least l i (λ k. let e = c.is_lower.ensures.1 k in cc)
      ])
    ]

pub returns : goal.returns
returns c = IsLeastOfBoth-all c.args.list.now c.args.codes.now c.loop-code.code-index c.loop-code.least (omega arith) c.loop-code.invariant
