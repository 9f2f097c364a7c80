use Rattle.std.proofs.Common.{◌≡◌, ◌≢◌, ◌≤◌, ◌<◌, ℕ, List, length, get_or, set, ap, sym, ◌∙◌, arith, subst, refl, true}
use Rattle.cover_core.specs.declared.state.View.{View}
use Rattle.cover_core.specs.declared.state.State.{State}
use Rattle.cover_core.specs.declared.kind.At.{At}
use Rattle.cover_core.specs.declared.kind.At.TheVariants.{Cursor, Place}
use Rattle.cover_core.specs.declared.kind.Kind.TheVariants.{Split, Join, Claim, Look, Publish, Settle}
use Rattle.std.proofs.lemmas.Bool.{false≢true}
use Rattle.cover_core.specs.Effects.{Answered}
use Rattle.cover_core.specs.Core.{Has, question_of, total_of}
use Rattle.cover_core.specs.Machine.{with_view}
use Rattle.cover_core.specs.Machines.{Takes, state_of}
use Rattle.cover_core.proofs.Stepping.{takes_at, takes_none_at, takes_never, unspent_at, view_at, reads_same, total_is, lent_is, two_parts, reads_other, claim_end, publish_end, split_end, held_at}
use Rattle.cover_core.proofs.machine.Machine.settle_step.Goals as goal

pub returns-then-not-is_held-clause-takes : goal.returns-then-not-is_held-clause-takes
returns-then-not-is_held-clause-takes g c =
    let q = g.Q.Question in
    let a = question_of (q.items c.args.query.now) (q.size c.args.query.now) (q.Fails c.args.query.now) in
    let s = state_of c.args.self.now in
    let seat = c.args.seat in
    let wide : seat < length s.views = omega (arith, c.requires.seat, c.args.self.now.views.ok.0) in
    takes_none_at a s seat (Settle c.args.range) c.index.result.now _ wide c.index.ensures (λ h. false≢true (c.if-not-is_held.ensures.1 h.0))

pub is_answered-requires-clause-ranks : goal.is_answered-requires-clause-ranks
is_answered-requires-clause-ranks g c κs bounds =
    let q = g.Q.Question in
    let a = question_of (q.items c.args.query.now) (q.size c.args.query.now) (q.Fails c.args.query.now) in
    let s = state_of c.args.self.now in
    let seat = c.args.seat in
    let wide : seat < length s.views = omega (arith, c.requires.seat, c.args.self.now.views.ok.0) in
    held_at s.views seat (total_of a) (c.args.range.from, c.args.range.to) c.index.result.now c.index.ensures c.requires.ranks (c.if-not-is_held.ensures.0 refl)

pub returns-then-not-is_answered-clause-takes : goal.returns-then-not-is_answered-clause-takes
returns-then-not-is_answered-clause-takes g c =
    let q = g.Q.Question in
    let a = question_of (q.items c.args.query.now) (q.size c.args.query.now) (q.Fails c.args.query.now) in
    let s = state_of c.args.self.now in
    let seat = c.args.seat in
    let wide : seat < length s.views = omega (arith, c.requires.seat, c.args.self.now.views.ok.0) in
    takes_none_at a s seat (Settle c.args.range) c.index-2.result.now _ wide c.index-2.ensures (λ h. c.if-not-is_answered.ensures.unanswered refl h.1)

pub returns-clause-takes : goal.returns-clause-takes
returns-clause-takes g c =
    let q = g.Q.Question in
    let a = question_of (q.items c.args.query.now) (q.size c.args.query.now) (q.Fails c.args.query.now) in
    let s = state_of c.args.self.now in
    let seat = c.args.seat in
    let wide : seat < length s.views = omega (arith, c.requires.seat, c.args.self.now.views.ok.0) in
    let v = c.index_mut.result.now in
    let x : ℕ × ℕ = (c.args.range.from, c.args.range.to) in
    let P : View → Type 0 = λ y. Has x y.held in
    let Q : View → Type 0 = λ y. Answered a x y in
    let held = subst P (reads_same s.views seat c.index.result.now v wide c.index.ensures c.index_mut.ensures.value) (c.if-not-is_held.ensures.0 refl) in
    let answered = subst Q (reads_same s.views seat c.index-2.result.now v wide c.index-2.ensures c.index_mut.ensures.value) (c.if-not-is_answered.ensures.answered refl) in
    takes_at a s seat (Settle c.args.range) v _ wide c.index_mut.ensures.value c.requires.unspent (held, answered) (ap (with_view s seat) c.settle.ensures)
