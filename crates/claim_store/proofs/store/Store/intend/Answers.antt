use Rattle.std.proofs.Common.{arith, refl}
use Rattle.cover_core.specs.declared.state.View.{View}
use Rattle.cover_core.specs.Effects as effect
use Rattle.cover_core.proofs.Looked as looked
use Rattle.claim_store.proofs.Rows.{opened_at, kept_by}
use Rattle.claim_store.proofs.Moves.{intending_allowed}
use Rattle.claim_store.proofs.store.Store.intend.Goals as goal

pub compare_exchange_with-requires : goal.compare_exchange_with-requires
compare_exchange_with-requires g c =
    let r = opened_at _ _ _ _ c.self.view_is c.pass.view_is c.requires.pass.seat in
    let words = c.self.invariant.words in
    let pass = c.pass.inside.seat in
    let shared = c.self.inside.table.shared in
    let q = g.Q.Question in
    (r.table, omega arith, intending_allowed q.items q.size q.Fails shared.key shared.table_id.slots pass.id pass.me r.some_parts r.facts (c.args.parts, 0))

pub returns-clause-kept : goal.returns-clause-kept
returns-clause-kept g c =
    let q = g.Q.Question in
    let e = c.compare_exchange_with.ensures in
    let n = c.compare_exchange_with.result in
    kept_by q.items q.size q.Fails c.args.self.now c.args.pass.now _ (effect.knows n) (λ (v : View) f. looked.fresh-same v (effect.knows n v) refl (omega arith) f) (λ h. h) c.pass.view_is c.requires.pass.seat _ _ _ _ _ e.0 e.2.0.facts e.2.3 e.2.0.sound

pub returns-clause-giving : goal.returns-clause-giving
returns-clause-giving g c = c.compare_exchange_with.ensures.2.2 (c.args.parts, 0) refl
