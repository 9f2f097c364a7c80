use Rattle.std.proofs.Common.{◌≡◌, ◌≢◌, ◌≤◌, ◌<◌, ℕ, List, length, get_or, set, ap, sym, ◌∙◌, arith, subst, refl, true}
use Rattle.cover_core.specs.declared.state.View.{View}
use Rattle.cover_core.specs.declared.state.State.{State}
use Rattle.cover_core.specs.declared.kind.At.{At}
use Rattle.cover_core.specs.declared.kind.At.TheVariants.{Cursor, Place}
use Rattle.cover_core.specs.declared.kind.Kind.TheVariants.{Split, Join, Claim, Look, Publish, Settle}
use Rattle.cover_core.specs.Core.{question_of, total_of}
use Rattle.cover_core.specs.Effects.{spent}
use Rattle.cover_core.specs.Machine.{IsAnother}
use Rattle.cover_core.specs.Machines.{Takes, state_of}
use Rattle.cover_core.proofs.Changing.{at_less, same_at}
use Rattle.cover_core.proofs.Stepping.{takes_at, takes_none_at, takes_never, unspent_at, view_at, reads_same, total_is, lent_is, two_parts, reads_other, claim_end, publish_end, split_end, lent_set, others_view, few_at, join_end}
use Rattle.cover_core.proofs.machine.Machine.join_step.Goals as goal
use Rattle.cover_core.proofs.machine.Machine.join_step.Goals.{then-other-seat-via-then-other-seat, then-other-seat-via-else-other-seat+then-len-other}

pub returns-then-other-seat : goal.returns-then-other-seat
returns-then-other-seat g c =
    let q = g.Q.Question in
    let a = question_of (q.items c.args._query.now) (q.size c.args._query.now) (q.Fails c.args._query.now) in
    let s = state_of c.args.self.now in
    let seat = c.args.seat in
    let wide : seat < length s.views = omega (arith, c.requires.seat, c.args.self.now.views.ok.0) in
    takes_never a s seat (Join c.args.from) _ (λ v h. elim c.then-other-seat.branch [
      | then-other-seat-via-then-other-seat w ↦ h.apart w.if-other-seat.true
      | then-other-seat-via-else-other-seat+then-len-other w ↦ let l = at_less s.views c.args.from h.view h.at in omega (arith, l, w.if-len-other.true, w.len.ensures, c.args.self.now.views.ok.0)
    ])

pub returns-then-index-eq0 : goal.returns-then-index-eq0
returns-then-index-eq0 g c =
    let q = g.Q.Question in
    let a = question_of (q.items c.args._query.now) (q.size c.args._query.now) (q.Fails c.args._query.now) in
    let s = state_of c.args.self.now in
    let seat = c.args.seat in
    let wide : seat < length s.views = omega (arith, c.requires.seat, c.args.self.now.views.ok.0) in
    let other = c.args.from in
    let inside : other < length s.views = omega (arith, c.if-len-other.false, c.len.ensures, c.args.self.now.views.ok.0) in
    takes_never a s seat (Join other) _ (λ v h.
    let e = ap (λ (x : View). x.parts) (same_at s.views other h.view c.index.result.now h.at (view_at s.views other c.index.result.now inside c.index.ensures)) in
    omega (arith, h.some_parts, e, c.if-index-eq0.true))

pub join-requires-clause-moves : goal.join-requires-clause-moves
join-requires-clause-moves g c =
    let q = g.Q.Question in
    let a = question_of (q.items c.args._query.now) (q.size c.args._query.now) (q.Fails c.args._query.now) in
    let s = state_of c.args.self.now in
    let seat = c.args.seat in
    let wide : seat < length s.views = omega (arith, c.requires.seat, c.args.self.now.views.ok.0) in
    let other = c.args.from in
    let written = lent_set c.args.self.now.views c.deref_mut.result.now c.take_other-taken.new.views other spent c.deref_mut.ensures.value c.take_other-taken.ensures.spent in
    few_at s.views seat c.index_mut.result.now (others_view s.views _ seat other c.index_mut.result.now written c.if-other-seat.false c.index_mut.ensures.value) c.requires.few

pub join-requires-clause-parts : goal.join-requires-clause-parts
join-requires-clause-parts g c =
    let q = g.Q.Question in
    let a = question_of (q.items c.args._query.now) (q.size c.args._query.now) (q.Fails c.args._query.now) in
    let s = state_of c.args.self.now in
    let seat = c.args.seat in
    let wide : seat < length s.views = omega (arith, c.requires.seat, c.args.self.now.views.ok.0) in
    let other = c.args.from in
    let written = lent_set c.args.self.now.views c.deref_mut.result.now c.take_other-taken.new.views other spent c.deref_mut.ensures.value c.take_other-taken.ensures.spent in
    let inside : other < length s.views = omega (arith, c.if-len-other.false, c.len.ensures, c.args.self.now.views.ok.0) in
    let v = c.index_mut.result.now in
    let u = c.take_other-taken.result in
    let e = others_view s.views _ seat other v written c.if-other-seat.false c.index_mut.ensures.value in
    let f = c.take_other-taken.ensures.other ∙ ap (λ (l : List View). get_or l other u) c.deref_mut.ensures.value in
    two_parts s.views seat other v u c.requires.parts (view_at s.views seat v wide e) (view_at s.views other u inside f) c.if-other-seat.false

pub returns : goal.returns
returns g c =
    let q = g.Q.Question in
    let a = question_of (q.items c.args._query.now) (q.size c.args._query.now) (q.Fails c.args._query.now) in
    let s = state_of c.args.self.now in
    let seat = c.args.seat in
    let wide : seat < length s.views = omega (arith, c.requires.seat, c.args.self.now.views.ok.0) in
    let other = c.args.from in
    let written = lent_set c.args.self.now.views c.deref_mut.result.now c.take_other-taken.new.views other spent c.deref_mut.ensures.value c.take_other-taken.ensures.spent in
    let inside : other < length s.views = omega (arith, c.if-len-other.false, c.len.ensures, c.args.self.now.views.ok.0) in
    let v = c.index_mut.result.now in
    let u = c.take_other-taken.result in
    let e = others_view s.views _ seat other v written c.if-other-seat.false c.index_mut.ensures.value in
    let f = c.take_other-taken.ensures.other ∙ ap (λ (l : List View). get_or l other u) c.deref_mut.ensures.value in
    let at = view_at s.views other u inside f in
    let some_parts : 0 < u.parts = let p = ap (λ (x : View). x.parts) (reads_same s.views other u c.index.result.now inside f c.index.ensures) in omega (arith, p, c.if-index-eq0.false) in
    let can : IsAnother s seat other = record { apart = c.if-other-seat.false; view = u; at = at; some_parts = some_parts } in
    let S : List View → State = λ l. record { cursor = s.cursor; words = s.words; views = set l seat c.join.new.view } in
    takes_at a s seat (Join other) v _ wide e c.requires.unspent can (ap S written ∙ join_end s seat other v c.join.new.view u at c.if-other-seat.false c.in_ok-join.ensures)
