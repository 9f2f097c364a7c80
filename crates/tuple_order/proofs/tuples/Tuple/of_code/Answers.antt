use Rattle.std.proofs.Common.{ℕ, ◌/◌, ◌%◌, ◌^◌, List, take, drop, replicate, ap, sym, ◌∙◌, arith, subst, length-take-le}
use Rattle.tuple_model.specs.Limits.{most_items, most_size}
use Rattle.tuple_model.specs.Tuples.{IsTuple}
use Rattle.tuple_order.specs.Codes.{code_of}
use Rattle.tuple_order.proofs.Digits.{first-read}
use Rattle.tuple_order.proofs.Codes.{code_of-size, items-from_code}
use Rattle.tuple_order.proofs.tuples.Tuple.of_code.Goals as goal

pub returns-then-size-from-clause-none : goal.returns-then-size-from-clause-none
returns-then-size-from-clause-none c = λ t h e.
    let s = code_of-size t h in
    let n = ap (λ (code : ℕ). code / 2 ^ 54 % 256) e in
    omega (arith, h.short, c.size_in-size.ensures)

pub returns-in_err-t-clause-none : goal.returns-in_err-t-clause-none
returns-in_err-t-clause-none c = rw c.from_residual.ensures (λ t h e.
    let size = c.size_in-size.result in
    let zeros : List ℕ = replicate 6 0 in
    let r = first-read size c.args.code (take size zeros) c.read_digits.new.items (drop size zeros) (length-take-le size zeros (omega arith)) c.read_digits.ensures
    ∙ items-from_code t c.args.code size h e c.size_in-size.ensures in
    c.in_err-t.ensures.none (subst (IsTuple most_items most_size) (sym r) h))

pub returns-else-code-clause-none : goal.returns-else-code-clause-none
returns-else-code-clause-none c = λ t h e.
    let size = c.size_in-size.result in
    let zeros : List ℕ = replicate 6 0 in
    let r = first-read size c.args.code (take size zeros) c.read_digits.new.items (drop size zeros) (length-take-le size zeros (omega arith)) c.read_digits.ensures
    ∙ items-from_code t c.args.code size h e c.size_in-size.ensures in
    c.if-code.false (c.code.ensures.code ∙ ap code_of (c.in_ok-t.ensures.items ∙ r) ∙ e)
