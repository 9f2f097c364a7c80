use Rattle.std.proofs.Common.{◌≡◌, ◌≢◌, ◌≤◌, ◌<◌, ℕ, List, length, get_or, set, ap, sym, ◌∙◌, arith, subst, refl, true}
use Rattle.cover_core.specs.declared.state.View.{View}
use Rattle.cover_core.specs.declared.state.State.{State}
use Rattle.cover_core.specs.declared.kind.At.{At}
use Rattle.cover_core.specs.declared.kind.At.TheVariants.{Cursor, Place}
use Rattle.cover_core.specs.declared.kind.Kind.TheVariants.{Split, Join, Claim, Look, Publish, Settle}
use Rattle.cover_core.specs.Core.{question_of, total_of}
use Rattle.cover_core.specs.Machine.{with_view}
use Rattle.cover_core.specs.Machines.{Takes, state_of}
use Rattle.cover_core.proofs.Stepping.{takes_at, takes_none_at, takes_never, unspent_at, view_at, reads_same, total_is, lent_is, two_parts, reads_other, claim_end, publish_end, split_end, join_end}
use Rattle.cover_core.proofs.machine.Machine.claim_step.Goals as goal
use Rattle.cover_core.proofs.machine.Machine.claim_step.Goals.{then-to-index-via-then-to-index, then-to-index-via-else-to-index+then-total-to}

pub returns-then-to-index : goal.returns-then-to-index
returns-then-to-index g c =
    let q = g.Q.Question in
    let a = question_of (q.items c.args.query.now) (q.size c.args.query.now) (q.Fails c.args.query.now) in
    let s = state_of c.args.self.now in
    let seat = c.args.seat in
    let wide : seat < length s.views = omega (arith, c.requires.seat, c.args.self.now.views.ok.0) in
    let all = total_is a c.items.result c.size.result c.count-total.result c.count-total.ensures c.items.ensures.items c.size.ensures.size in
    let v = c.index.result.now in
    takes_none_at a s seat (Claim c.args.to) v _ wide c.index.ensures
    (λ h. elim c.then-to-index.branch [
      | then-to-index-via-then-to-index w ↦ omega (arith, h.0, w.if-to-index.true)
      | then-to-index-via-else-to-index+then-total-to w ↦ omega (arith, h.1, w.if-total-to.true, all)
    ])

pub returns : goal.returns
returns g c =
    let q = g.Q.Question in
    let a = question_of (q.items c.args.query.now) (q.size c.args.query.now) (q.Fails c.args.query.now) in
    let s = state_of c.args.self.now in
    let seat = c.args.seat in
    let wide : seat < length s.views = omega (arith, c.requires.seat, c.args.self.now.views.ok.0) in
    let all = total_is a c.items.result c.size.result c.count-total.result c.count-total.ensures c.items.ensures.items c.size.ensures.size in
    let v = c.index_mut.result.now in
    let cursor = ap (λ (x : View). x.cursor) (reads_same s.views seat v c.index.result.now wide c.index_mut.ensures.value c.index.ensures) in
    let can : (v.cursor < c.args.to) × (c.args.to ≤ total_of a) = (omega (arith, cursor, c.if-to-index.false), omega (arith, all, c.if-total-to.false)) in
    takes_at a s seat (Claim c.args.to) v _ wide c.index_mut.ensures.value c.requires.unspent can
    (claim_end s seat c.args.to c.claim.new.cursor v c.claim.new.view (λ e. (c.in_ok-claim.ensures.cursor e, c.in_ok-claim.ensures.opened e)) (λ e. (c.in_ok-claim.ensures.same e, c.in_ok-claim.ensures.late e)))
