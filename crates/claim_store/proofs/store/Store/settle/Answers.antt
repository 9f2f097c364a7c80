use Rattle.std.proofs.Common.{ℕ, arith, refl, sym, subst}
use Rattle.cover_core.specs.declared.state.View.{View}
use Rattle.cover_core.specs.Core.{Has, IsRangeBefore, Rises}
use Rattle.cover_core.specs.Effects.{Answered}
use Rattle.cover_core.specs.Effects as effect
use Rattle.cover_core.proofs.Looked as looked
use Rattle.claim_store.specs.Seen.{StoreSeen, PassSeen}
use Rattle.claim_store.specs.Rule.{asked}
use Rattle.claim_store.proofs.Rows.{opened_at, kept_by}
use Rattle.claim_store.proofs.Moves.{settling_allowed}
use Rattle.claim_store.proofs.Ranges.{take_out-gone}
use Rattle.claim_store.proofs.store.Store.settle.Goals as goal

pub compare_exchange_with-requires : goal.compare_exchange_with-requires
compare_exchange_with-requires g c =
    let r = opened_at _ _ _ _ c.self.view_is c.pass.view_is c.requires.pass.seat in
    let words = c.self.invariant.words in
    let pass = c.pass.inside.seat in
    let shared = c.self.inside.table.shared in
    let q = g.Q.Question in
    let range : ℕ × ℕ = (c.args.range.from, c.args.range.to) in
    let answered = subst (λ (p : PassSeen g.row.Q.Denot). Answered (asked q.items q.size q.Fails shared.key) range p.view) (sym c.pass.view_is)
    (subst (λ (s : StoreSeen g.row.Q.Denot). Answered (asked q.items q.size q.Fails s.facts) range c.args.pass.now.view) (sym c.self.view_is) c.requires.answered) in
    (r.table, omega arith, settling_allowed q.items q.size q.Fails shared.key shared.table_id.slots pass.id pass.me r.some_parts r.facts range answered)

pub returns-clause-kept : goal.returns-clause-kept
returns-clause-kept g c =
    let q = g.Q.Question in
    let e = c.compare_exchange_with.ensures in
    let n = c.compare_exchange_with.result in
    let x : ℕ × ℕ = (c.args.range.from, c.args.range.to) in
    kept_by q.items q.size q.Fails c.args.self.now c.args.pass.now _ (effect.settles x n) (λ (v : View) f. looked.fresh-same v (effect.settles x n v) refl (omega arith) f) (λ h. h) c.pass.view_is c.requires.pass.seat _ _ _ _ _ e.0 e.2.0.facts (e.2.2 x refl) e.2.0.sound

pub returns-clause-closed : goal.returns-clause-closed
returns-clause-closed g c has =
    let e = c.compare_exchange_with.ensures in
    let x : ℕ × ℕ = (c.args.range.from, c.args.range.to) in
    let view = e.2.2 x refl in
    let old = subst (λ (p : PassSeen g.row.Q.Denot). Rises IsRangeBefore p.view.held) (sym c.pass.view_is) c.requires.pass.sound.lists.held in
    take_out-gone x c.pass.inside.seat.me.0.view.held old (subst (λ (v : View). Has x v.held) view has)
