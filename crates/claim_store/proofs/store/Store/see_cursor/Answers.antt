use Rattle.std.proofs.Common.{arith, refl}
use Rattle.cover_core.specs.declared.state.View.{View}
use Rattle.cover_core.specs.Effects as effect
use Rattle.cover_core.proofs.Looked as looked
use Rattle.claim_store.proofs.Rows.{opened_at, kept_by}
use Rattle.claim_store.proofs.Moves.{sees_cursor}
use Rattle.claim_store.proofs.store.Store.see_cursor.Goals as goal

pub load-requires : goal.load-requires
load-requires g c =
    let r = opened_at _ _ _ _ c.self.view_is c.pass.view_is c.requires in
    let words = c.self.invariant.words in
    let pass = c.pass.inside.seat in
    let shared = c.self.inside.table.shared in
    let q = g.Q.Question in
    (r.table, omega arith, sees_cursor q.items q.size q.Fails shared.key shared.table_id.slots pass.id pass.me r.some_parts r.facts)

pub returns-clause-kept : goal.returns-clause-kept
returns-clause-kept g c =
    let q = g.Q.Question in
    let e = c.load.ensures in
    let n = c.load.result in
    kept_by q.items q.size q.Fails c.args.self.now c.args.pass.now _ (effect.knows n) (λ (v : View) f. looked.fresh-same v (effect.knows n v) refl (omega arith) f) (λ h. h) c.pass.view_is c.requires _ _ _ _ _ e.0 e.2.0.facts e.2.2 e.2.0.sound
