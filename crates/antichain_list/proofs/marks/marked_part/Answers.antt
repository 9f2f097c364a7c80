use Rattle.std.proofs.Common.{false, length, get_or, refl, sym, arith, subst, ◌-◌, ◌≤◌}
use Rattle.tuple_model.specs.Limits.{most_items, most_size}
use Rattle.tuple_model.specs.Tuples.{IsTuple}
use Rattle.tuple_model.proofs.Subsets.{member-from_subset}
use Rattle.antichain_list.proofs.Marking.{IsDigit, NumbersMarked-before, number-small, digit-small}
use Rattle.antichain_list.proofs.marks.marked_part.Goals as goal

short : (c : goal.In-loop-place) → length c.items-items.result.now ≤ 6
short c = (subst (IsTuple most_items most_size) (sym c.items-items.ensures.items) c.items-items.ensures.tuple).short

pub overflow_mul-number : goal.overflow_mul-number
overflow_mul-number c =
    let l = number-small c.args.marks.now c.items-items.result.now c.loop-place.place c.loop-place.number (short c) c.loop-place-test.true c.loop-place.auto.place c.loop-place.invariant in
    omega arith

pub overflow_add-number : goal.overflow_add-number
overflow_add-number c =
    let l = number-small c.args.marks.now c.items-items.result.now c.loop-place.place c.loop-place.number
    (subst (IsTuple most_items most_size) (sym c.items-items.ensures.items) c.items-items.ensures.tuple).short c.loop-place-test.true c.loop-place.auto.place c.loop-place.invariant in
    let digit : IsDigit (get_or c.args.marks.now c.from.result false) c.from-in-loop-place.result =
    record { one = λ e. rw e at c.from-in-loop-place.ensures; zero = λ e. rw e at c.from-in-loop-place.ensures } in
    let m = digit-small (get_or c.args.marks.now c.from.result false) c.from-in-loop-place.result digit in
    omega arith

pub loop-place-preserved : goal.loop-place-preserved
loop-place-preserved c =
    let t = c.items-items.result.now in
    let digit : IsDigit (get_or c.args.marks.now c.from.result false) c.from-in-loop-place.result =
    record { one = λ e. rw e at c.from-in-loop-place.ensures; zero = λ e. rw e at c.from-in-loop-place.ensures } in
    let there = rw c.from.ensures at digit in
    NumbersMarked-before c.args.marks.now t c.loop-place.place c.loop-place.number (get_or c.args.marks.now (get_or t (c.loop-place.place - 1) 0) false) c.from-in-loop-place.result
    c.loop-place-test.true c.loop-place.auto.place refl there c.loop-place.invariant

pub returns-clause-subset : goal.returns-clause-subset
returns-clause-subset c = rw c.subset.ensures (member-from_subset c.loop-place.number c.args.t.now)
