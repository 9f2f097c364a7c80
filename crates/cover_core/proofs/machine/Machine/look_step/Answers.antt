use Rattle.std.proofs.Common.{◌≡◌, ◌≢◌, ◌≤◌, ◌<◌, ℕ, List, length, get_or, set, ap, sym, ◌∙◌, arith, subst, refl, true}
use Rattle.cover_core.specs.declared.state.View.{View}
use Rattle.cover_core.specs.declared.state.State.{State}
use Rattle.cover_core.specs.declared.kind.At.{At}
use Rattle.cover_core.specs.declared.kind.At.TheVariants.{Cursor, Place}
use Rattle.cover_core.specs.declared.kind.Kind.TheVariants.{Split, Join, Claim, Look, Publish, Settle}
use Rattle.cover_core.specs.Core.{question_of, total_of}
use Rattle.cover_core.specs.Effects.{looks}
use Rattle.cover_core.specs.Machine.{with_view}
use Rattle.cover_core.specs.Machines.{Takes, state_of}
use Rattle.cover_core.proofs.Stepping.{takes_at, takes_none_at, takes_never, unspent_at, view_at, reads_same, total_is, lent_is, two_parts, reads_other, claim_end, publish_end, split_end, join_end}
use Rattle.cover_core.proofs.machine.Machine.look_step.Goals as goal

pub returns-in-Cursor : goal.returns-in-Cursor
returns-in-Cursor g c =
    let q = g.Q.Question in
    let a = question_of (q.items c.args._query.now) (q.size c.args._query.now) (q.Fails c.args._query.now) in
    let s = state_of c.args.self.now in
    let seat = c.args.seat in
    let wide : seat < length s.views = omega (arith, c.requires.seat, c.args.self.now.views.ok.0) in
    let P : At → Type 0 = λ x. Takes a s seat (Look x) true (with_view s seat c.know.new.view) in
    subst P (sym c.in-Cursor.is) (takes_at a s seat (Look Cursor) c.index_mut.result.now _ wide c.index_mut.ensures.value c.requires.unspent tt (ap (with_view s seat) c.know.ensures))

pub returns-in_ok-look_at-in-Place : goal.returns-in_ok-look_at-in-Place
returns-in_ok-look_at-in-Place g c =
    let q = g.Q.Question in
    let a = question_of (q.items c.args._query.now) (q.size c.args._query.now) (q.Fails c.args._query.now) in
    let s = state_of c.args.self.now in
    let seat = c.args.seat in
    let wide : seat < length s.views = omega (arith, c.requires.seat, c.args.self.now.views.ok.0) in
    let p = c.in-Place.place in
    let v = c.index_mut-in-Place.result.now in
    let P : At → Type 0 = λ x. Takes a s seat (Look x) true (with_view s seat c.look_at.new.view) in
    let inside : p < length s.words = omega (arith, c.if-len-place.false, c.len.ensures, c.args.self.now.words.ok.0) in
    let e = c.in_ok-look_at-in-Place.ensures ∙ ap (λ (ws : List ℕ). looks p (get_or ws p 0) v) c.deref.ensures.value in
    subst P (sym c.in-Place.is) (takes_at a s seat (Look (Place p)) v _ wide c.index_mut-in-Place.ensures.value c.requires.unspent inside (ap (with_view s seat) e))
