use Rattle.std.proofs.Common.{◌≡◌, Bool, true, false, ℕ, List, length, sym, ap, ◌∙◌, arith}
use Rattle.std.specs.List.{list_any}
use Rattle.gadget_grammar.specs.Seen.{steps_in}
use Rattle.gadget_tree.specs.Variables.{names_of, is_among}
use Rattle.gadget_tree.specs.Made.{count_made, names_made}
use Rattle.gadget_tree.proofs.LineAnswers.{says-taken, says-unknown, says-many, says-made, length-kinds, operations-kinds, variables-kinds}
use Rattle.gadget_tree.proofs.line.with_steps.Goals as goal

-- whether a name of the line is taken, as the code counts
taken : (names : List (List ℕ)) (x : List ℕ) (count n : ℕ) (found b : Bool) → found ≡ list_any (is_among names) (names_made x count) → found ≡ b → count ≡ n → list_any (is_among names) (names_made x n) ≡ b
taken names x count n found b e f g = sym (e ∙ ap (λ (k : ℕ). list_any (is_among names) (names_made x k)) g) ∙ f

pub returns-then-is_some_taken : goal.returns-then-is_some_taken
returns-then-is_some_taken c =
    let earlier = c.args.variables in
    let steps = steps_in c.args.bytes.now c.args.steps.now in
    λ other. says-taken c.args.line earlier c.args.name.now steps
    (taken (names_of earlier) c.args.name.now c.count_made-count.result (count_made steps) c.is_some_taken.result true c.is_some_taken.ensures c.if-is_some_taken.true (c.count_made-count.ensures c.args.bytes.now))

pub returns-then-not-are_known : goal.returns-then-not-are_known
returns-then-not-are_known c =
    let earlier = c.args.variables in
    let steps = steps_in c.args.bytes.now c.args.steps.now in
    λ other. says-unknown c.args.line earlier c.args.name.now steps
    (taken (names_of earlier) c.args.name.now c.count_made-count.result (count_made steps) c.is_some_taken.result false c.is_some_taken.ensures c.if-is_some_taken.false (c.count_made-count.ensures c.args.bytes.now))
    (sym c.are_known.ensures ∙ c.if-not-are_known.true)

pub returns-then-count-len : goal.returns-then-count-len
returns-then-count-len c =
    let earlier = c.args.variables in
    let steps = steps_in c.args.bytes.now c.args.steps.now in
    λ other. says-many c.args.line earlier c.args.name.now steps
    (taken (names_of earlier) c.args.name.now c.count_made-count.result (count_made steps) c.is_some_taken.result false c.is_some_taken.ensures c.if-is_some_taken.false (c.count_made-count.ensures c.args.bytes.now))
    (sym c.are_known.ensures ∙ c.if-not-are_known.false)
    (omega (arith, c.count_made-count.ensures c.args.bytes.now, c.if-count-len.true, c.len.ensures.len, c.len.ensures.few))

pub kinds_made-requires-clause-room : goal.kinds_made-requires-clause-room
kinds_made-requires-clause-room c = omega (arith, c.count_made-count.ensures c.args.bytes.now, c.if-count-len.false, c.len.ensures.len, c.len.ensures.few)

pub with_kinds-requires-clause-fresh : goal.with_kinds-requires-clause-fresh
with_kinds-requires-clause-fresh c =
    let names = names_of c.args.variables in
    let steps = steps_in c.args.bytes.now c.args.steps.now in
    taken names c.args.name.now c.count_made-count.result (length c.deref.result.now) c.is_some_taken.result false c.is_some_taken.ensures c.if-is_some_taken.false
    (c.count_made-count.ensures c.args.bytes.now ∙ sym (length-kinds c.args.variables steps c.deref.result.now c.in_ok-kinds.kinds.items c.requires.tree.0 c.requires.tree.1 c.deref.ensures.value c.in_ok-kinds.ensures))

pub with_kinds-requires-clause-room : goal.with_kinds-requires-clause-room
with_kinds-requires-clause-room c =
    let steps = steps_in c.args.bytes.now c.args.steps.now in
    let count = length-kinds c.args.variables steps c.deref.result.now c.in_ok-kinds.kinds.items c.requires.tree.0 c.requires.tree.1 c.deref.ensures.value c.in_ok-kinds.ensures in
    omega (arith, count, c.count_made-count.ensures c.args.bytes.now, c.if-count-len.false, c.len.ensures.len, c.len.ensures.few)

pub with_kinds-requires-clause-operations : goal.with_kinds-requires-clause-operations
with_kinds-requires-clause-operations c =
    operations-kinds c.args.variables (steps_in c.args.bytes.now c.args.steps.now) c.deref.result.now c.in_ok-kinds.kinds.items c.requires.tree.0 c.requires.tree.1 c.deref.ensures.value c.in_ok-kinds.ensures

pub returns : goal.returns
returns c =
    let earlier = c.args.variables in
    let steps = steps_in c.args.bytes.now c.args.steps.now in
    says-made c.args.line earlier c.in_ok-with_kinds.field-0 c.args.name.now steps
    (taken (names_of earlier) c.args.name.now c.count_made-count.result (count_made steps) c.is_some_taken.result false c.is_some_taken.ensures c.if-is_some_taken.false (c.count_made-count.ensures c.args.bytes.now))
    (sym c.are_known.ensures ∙ c.if-not-are_known.false)
    (omega (arith, c.count_made-count.ensures c.args.bytes.now, c.if-count-len.false, c.len.ensures.len, c.len.ensures.few))
    (variables-kinds c.args.variables steps c.deref.result.now c.in_ok-kinds.kinds.items c.requires.tree.0 c.requires.tree.1 c.deref.ensures.value c.in_ok-kinds.ensures c.args.line c.args.name.now
    c.in_ok-with_kinds.field-0 c.in_ok-with_kinds.ensures)
