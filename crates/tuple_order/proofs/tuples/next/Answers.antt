use Rattle.std.proofs.Common.{take, arith, inl, inr, sym, ap, ◌∙◌, refl}
use Rattle.tuple_order.specs.Steps.{next_of_size}
use Rattle.tuple_order.proofs.Placing.{Found, held_items, length-held_items, raised-held, raised-view_next, longer-held, longer-view_next, same_places, Found-same_places}
use Rattle.tuple_order.proofs.Stepping.{rank-last, IsTuple-next}
use Rattle.tuple_order.proofs.Walk.{next_rank}
use Rattle.tuple_order.proofs.tuples.next.Goals as goal
use Rattle.tuple_order.proofs.tuples.next.Goals.{then-t-size-via-then-t-size, then-t-size-via-else-t-size+then-from-items}

pub invariant_of-t : goal.invariant_of-t
invariant_of-t c =
    let f : Found c.args.items c.args.size c.args.t.now c.t.inside.items c.t.inside.size c.from-held.result = record { few = c.requires.items_at_most; short = c.requires.size_at_most; fits = c.requires.fits; holds = c.t.invariant; view = c.t.view_is; same = c.from-held.ensures } in
    raised-held f c.raise.new.items (c.if-raise.ensures.raised refl) c.raise.auto.items

pub returns-then-raise-clause-next : goal.returns-then-raise-clause-next
returns-then-raise-clause-next c = λ _ rank h.
    let f : Found c.args.items c.args.size c.args.t.now c.t.inside.items c.t.inside.size c.from-held.result = record { few = c.requires.items_at_most; short = c.requires.size_at_most; fits = c.requires.fits; holds = c.t.invariant; view = c.t.view_is; same = c.from-held.ensures } in
    next_rank c.args.items c.args.size rank c.args.t.now h ∙ raised-view_next f c.raise.new.items (c.if-raise.ensures.raised refl) c.raise.auto.items

pub returns-then-raise-clause-tuple : goal.returns-then-raise-clause-tuple
returns-then-raise-clause-tuple c =
    let f : Found c.args.items c.args.size c.args.t.now c.t.inside.items c.t.inside.size c.from-held.result = record { few = c.requires.items_at_most; short = c.requires.size_at_most; fits = c.requires.fits; holds = c.t.invariant; view = c.t.view_is; same = c.from-held.ensures } in
    IsTuple-next c.args.items c.args.size c.args.t.now _ c.requires.fits (raised-view_next f c.raise.new.items (c.if-raise.ensures.raised refl) c.raise.auto.items)

pub returns-then-t-size-clause-last : goal.returns-then-t-size-clause-last
returns-then-t-size-clause-last c = λ _.
    let f : Found c.args.items c.args.size c.args.t.now c.t.inside.items c.t.inside.size c.from-held.result = record { few = c.requires.items_at_most; short = c.requires.size_at_most; fits = c.requires.fits; holds = c.t.invariant; view = c.t.view_is; same = c.from-held.ensures } in
    let n = length-held_items f in
    rank-last c.args.items c.args.size c.args.t.now (ap (next_of_size c.args.items) (sym (held_items f)) ∙ c.if-raise.ensures.last refl)
    (elim c.then-t-size.branch [
      | then-t-size-via-then-t-size w ↦ inl (omega (arith, w.if-t-size.true, n))
      | then-t-size-via-else-t-size+then-from-items w ↦ inr (omega (arith, w.if-from-items.true, w.from.ensures, n))
    ])

pub invariant_of-t-2 : goal.invariant_of-t-2
invariant_of-t-2 c =
    let f : Found c.args.items c.args.size c.args.t.now c.t.inside.items c.t.inside.size c.from-held.result = record { few = c.requires.items_at_most; short = c.requires.size_at_most; fits = c.requires.fits; holds = c.t.invariant; view = c.t.view_is; same = c.from-held.ensures } in
    let g = Found-same_places f c.raise.new.items (c.if-raise.ensures.stays refl) in
    longer-held g c.number_from.new.places (ap (next_of_size c.args.items) (ap (take c.from-held.result) (same_places f c.raise.new.items (c.if-raise.ensures.stays refl))) ∙ c.if-raise.ensures.last refl)
    c.if-t-size.false (omega (arith, c.if-from-items.false, c.from.ensures)) c.number_from.ensures

pub returns-clause-next : goal.returns-clause-next
returns-clause-next c = λ _ rank h.
    let f : Found c.args.items c.args.size c.args.t.now c.t.inside.items c.t.inside.size c.from-held.result = record { few = c.requires.items_at_most; short = c.requires.size_at_most; fits = c.requires.fits; holds = c.t.invariant; view = c.t.view_is; same = c.from-held.ensures } in
    let g = Found-same_places f c.raise.new.items (c.if-raise.ensures.stays refl) in
    next_rank c.args.items c.args.size rank c.args.t.now h ∙ longer-view_next g c.number_from.new.places (ap (next_of_size c.args.items) (ap (take c.from-held.result) (same_places f c.raise.new.items (c.if-raise.ensures.stays refl))) ∙ c.if-raise.ensures.last refl)
    c.if-t-size.false (omega (arith, c.if-from-items.false, c.from.ensures)) c.number_from.ensures

pub returns-clause-tuple : goal.returns-clause-tuple
returns-clause-tuple c =
    let f : Found c.args.items c.args.size c.args.t.now c.t.inside.items c.t.inside.size c.from-held.result = record { few = c.requires.items_at_most; short = c.requires.size_at_most; fits = c.requires.fits; holds = c.t.invariant; view = c.t.view_is; same = c.from-held.ensures } in
    let g = Found-same_places f c.raise.new.items (c.if-raise.ensures.stays refl) in
    IsTuple-next c.args.items c.args.size c.args.t.now _ c.requires.fits (longer-view_next g c.number_from.new.places (ap (next_of_size c.args.items) (ap (take c.from-held.result) (same_places f c.raise.new.items (c.if-raise.ensures.stays refl))) ∙ c.if-raise.ensures.last refl)
    c.if-t-size.false (omega (arith, c.if-from-items.false, c.from.ensures)) c.number_from.ensures)
