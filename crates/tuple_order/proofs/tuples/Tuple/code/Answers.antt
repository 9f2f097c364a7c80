use Rattle.std.proofs.Common.{◌≡◌, ℕ, ◌+◌, ◌*◌, ◌^◌, List, length, ap, sym, ◌∙◌, arith, subst}
use Rattle.tuple_order.specs.Codes.{code_of, digits}
use Rattle.tuple_order.proofs.Codes.{code_of-small}
use Rattle.tuple_order.proofs.Digits.{code_of-start, digits-at}
use Rattle.tuple_order.proofs.tuples.Tuple.code.Goals as goal

pub loop-item-init : goal.loop-item-init
loop-item-init c =
    let P : List ℕ → Type 0 = λ t. 2 ^ 62 + length t * 2 ^ 54 + digits (2 ^ 45) t ≡ code_of c.args.self.now in
    let start = subst P (sym c.items-items.ensures.items) (code_of-start c.args.self.now) in
    ap (λ (n : ℕ). n + digits (2 ^ 45) c.items-items.result.now) c.lowest_code-code.ensures ∙ start

pub overflow_mul-code : goal.overflow_mul-code
overflow_mul-code c =
    let l = c.loop-item in
    let d = digits-at l.worth c.items-items.result.now l.item-index c.loop-item-test.true in
    let small = code_of-small c.args.self.now c.items-items.ensures.tuple in
    let e = ap (λ (n : ℕ). (n + 1) * l.worth) c.from.ensures in
    omega (arith, l.invariant)

pub overflow_add-code-in-loop-item : goal.overflow_add-code-in-loop-item
overflow_add-code-in-loop-item c =
    let l = c.loop-item in
    let d = digits-at l.worth c.items-items.result.now l.item-index c.loop-item-test.true in
    let small = code_of-small c.args.self.now c.items-items.ensures.tuple in
    let e = ap (λ (n : ℕ). (n + 1) * l.worth) c.from.ensures in
    omega (arith, l.invariant)
