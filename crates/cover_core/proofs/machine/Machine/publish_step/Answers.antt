use Rattle.std.proofs.Common.{◌≡◌, ◌≢◌, ◌≤◌, ◌<◌, ℕ, List, length, get_or, set, ap, sym, ◌∙◌, arith, subst, refl, true}
use Rattle.cover_core.specs.declared.state.View.{View}
use Rattle.cover_core.specs.declared.state.State.{State}
use Rattle.cover_core.specs.declared.kind.At.{At}
use Rattle.cover_core.specs.declared.kind.At.TheVariants.{Cursor, Place}
use Rattle.cover_core.specs.declared.kind.Kind.TheVariants.{Split, Join, Claim, Look, Publish, Settle}
use Rattle.cover_core.specs.Core.{question_of, total_of}
use Rattle.cover_core.specs.Machine.{MayPublish}
use Rattle.cover_core.specs.Machines.{Takes, state_of}
use Rattle.cover_core.proofs.Stepping.{takes_at, takes_none_at, takes_never, unspent_at, view_at, reads_same, total_is, lent_is, two_parts, reads_other, claim_end, publish_end, split_end, publish_lent}
use Rattle.cover_core.proofs.machine.Machine.publish_step.Goals as goal

pub returns-then-not-may_store-clause-takes : goal.returns-then-not-may_store-clause-takes
returns-then-not-may_store-clause-takes g c =
    let q = g.Q.Question in
    let a = question_of (q.items c.args.query.now) (q.size c.args.query.now) (q.Fails c.args.query.now) in
    let s = state_of c.args.self.now in
    let seat = c.args.seat in
    let wide : seat < length s.views = omega (arith, c.requires.seat, c.args.self.now.views.ok.0) in
    takes_none_at a s seat (Publish c.args.place c.args.tuple.now) c.index.result.now _ wide c.index.ensures (c.if-not-may_store.ensures.not refl s (sym c.args.self.now.words.ok.0 ∙ sym c.len-width.ensures))

pub store-requires-clause-place : goal.store-requires-clause-place
store-requires-clause-place g c =
    let q = g.Q.Question in
    let a = question_of (q.items c.args.query.now) (q.size c.args.query.now) (q.Fails c.args.query.now) in
    let s = state_of c.args.self.now in
    let seat = c.args.seat in
    let wide : seat < length s.views = omega (arith, c.requires.seat, c.args.self.now.views.ok.0) in
    let may = c.if-not-may_store.ensures.may refl s (sym c.args.self.now.words.ok.0 ∙ sym c.len-width.ensures) in
    omega (arith, may.inside, ap (λ (l : List ℕ). length l) c.deref_mut.ensures.value)

pub returns-clause-takes : goal.returns-clause-takes
returns-clause-takes g c =
    let q = g.Q.Question in
    let a = question_of (q.items c.args.query.now) (q.size c.args.query.now) (q.Fails c.args.query.now) in
    let s = state_of c.args.self.now in
    let seat = c.args.seat in
    let wide : seat < length s.views = omega (arith, c.requires.seat, c.args.self.now.views.ok.0) in
    let may = c.if-not-may_store.ensures.may refl s (sym c.args.self.now.words.ok.0 ∙ sym c.len-width.ensures) in
    let v = c.index_mut.result.now in
    let p = c.args.place in
    let t = c.args.tuple.now in
    let P : View → Type 0 = λ x. MayPublish a s x p t in
    let can = subst P (reads_same s.views seat c.index.result.now v wide c.index.ensures c.index_mut.ensures.value) may in
    let lent = lent_is c.args.self.now.words c.deref_mut.result.now c.store.new.words c.deref_mut.ensures.value c.store.auto.words in
    let made = c.in_ok-store.ensures in
    takes_at a s seat (Publish p t) v _ wide c.index_mut.ensures.value c.requires.unspent can
    (publish_lent s seat p c.code.result t _ c.deref_mut.result.now v c.store.new.view c.deref_mut.ensures.value c.code.ensures.code (λ e. (lent ∙ made.word e, made.stored e)) (λ e. (lent ∙ made.same e, made.looked e)))
