use Rattle.std.proofs.Common.{◌≡◌, ◌≢◌, ◌≤◌, ◌<◌, ℕ, List, length, get_or, set, ap, sym, ◌∙◌, arith, subst, refl, true}
use Rattle.cover_core.specs.declared.state.View.{View}
use Rattle.cover_core.specs.declared.state.State.{State}
use Rattle.cover_core.specs.declared.kind.At.{At}
use Rattle.cover_core.specs.declared.kind.At.TheVariants.{Cursor, Place}
use Rattle.cover_core.specs.declared.kind.Kind.TheVariants.{Split, Join, Claim, Look, Publish, Settle}
use Rattle.cover_core.specs.Core.{question_of, total_of}
use Rattle.cover_core.specs.Machine.{with_view}
use Rattle.cover_core.specs.Machines.{Takes, state_of}
use Rattle.cover_core.proofs.Stepping.{takes_at, takes_none_at, takes_never, unspent_at, view_at, reads_same, total_is, lent_is, two_parts, reads_other, claim_end, publish_end, split_end, join_end}
use Rattle.cover_core.proofs.machine.Machine.split_step.Goals as goal
use Rattle.cover_core.proofs.machine.Machine.split_step.Goals.{then-parts-eq0-via-then-parts-eq0, then-parts-eq0-via-else-parts-eq0+then-index-parts}

pub returns-then-parts-eq0 : goal.returns-then-parts-eq0
returns-then-parts-eq0 g c =
    let q = g.Q.Question in
    let a = question_of (q.items c.args._query.now) (q.size c.args._query.now) (q.Fails c.args._query.now) in
    let s = state_of c.args.self.now in
    let seat = c.args.seat in
    let wide : seat < length s.views = omega (arith, c.requires.seat, c.args.self.now.views.ok.0) in
    elim c.then-parts-eq0.branch [
      | then-parts-eq0-via-then-parts-eq0 w ↦ takes_never a s seat (Split c.args.parts) _ (λ v h. omega (arith, h.0, w.if-parts-eq0.true))
      | then-parts-eq0-via-else-parts-eq0+then-index-parts w ↦ takes_none_at a s seat (Split c.args.parts) w.index.result.now _ wide w.index.ensures (λ h. omega (arith, h.1, w.if-index-parts.true))
    ]

pub returns : goal.returns
returns g c =
    let q = g.Q.Question in
    let a = question_of (q.items c.args._query.now) (q.size c.args._query.now) (q.Fails c.args._query.now) in
    let s = state_of c.args.self.now in
    let seat = c.args.seat in
    let wide : seat < length s.views = omega (arith, c.requires.seat, c.args.self.now.views.ok.0) in
    let v = c.index_mut.result.now in
    takes_at a s seat (Split c.args.parts) v _ wide c.index_mut.ensures.value c.requires.unspent (omega (arith, c.if-parts-eq0.false), let e = ap (λ (x : View). x.parts) (reads_same s.views seat v c.index.result.now wide c.index_mut.ensures.value c.index.ensures) in omega (arith, e, c.if-index-parts.false)) (split_end s seat c.args.parts _ v c.split.new.view c.in_ok-other.other c.in_ok-push.ensures.items c.in_ok-other.ensures.left c.in_ok-other.ensures.right)
