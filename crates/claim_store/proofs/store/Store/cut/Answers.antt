use Rattle.std.proofs.Common.{◌<◌, arith, sym, ap, subst, refl}
use Rattle.cover_core.specs.declared.state.View.{View}
use Rattle.cover_core.specs.Core.{ListsRise}
use Rattle.cover_core.specs.Effects as effect
use Rattle.cover_core.proofs.Looked as looked
use Rattle.claim_store.specs.Seen.{PassSeen}
use Rattle.claim_store.proofs.Rows.{opened_at, kept_by, sound_by}
use Rattle.claim_store.proofs.Moves.{cutting_allowed}
use Rattle.claim_store.proofs.store.Store.cut.Goals as goal

pub split_seat-seat-requires : goal.split_seat-seat-requires
split_seat-seat-requires g c =
    let r = opened_at _ _ _ _ c.self.view_is c.pass.view_is c.requires.pass.seat in
    let words = c.self.invariant.words in
    let pass = c.pass.inside.seat in
    let shared = c.self.inside.table.shared in
    let q = g.Q.Question in
    let gives = subst (λ (p : PassSeen g.row.Q.Denot). (0 < p.giving) × (p.giving < p.view.parts)) (sym c.pass.view_is) c.requires.giving in
    (r.table, omega arith, cutting_allowed q.items q.size q.Fails shared.key shared.table_id.slots pass.id pass.me r.some_parts r.facts gives.0 gives.1)

pub returns-clause-kept : goal.returns-clause-kept
returns-clause-kept g c =
    let q = g.Q.Question in
    let e = c.split_seat-seat.ensures in
    let pass = c.pass.inside.seat in
    let d = pass.me.0.giving in
    let gives = subst (λ (p : PassSeen g.row.Q.Denot). (0 < p.giving) × (p.giving < p.view.parts)) (sym c.pass.view_is) c.requires.giving in
    kept_by q.items q.size q.Fails c.args.self.now c.args.pass.now _ (effect.split_left d) (λ (v : View) f. looked.fresh-same v (effect.split_left d v) refl (omega arith) f) (λ h. omega arith) c.pass.view_is c.requires.pass.seat _ _ _ _ _ e.0 (ap (λ m. m.0.facts) e.2) (ap (λ m. m.0.view) e.2)
    (sound_by q.items q.size q.Fails c.args.self.now c.args.pass.now _ _ c.pass.view_is c.requires.pass (ap (λ m. m.0.view.seen) e.2) (λ l. subst ListsRise (sym (ap (λ m. m.0.view) e.2)) record { held = l.held; seen = l.seen; made = l.made; bare = l.bare }))

pub returns-clause-made : goal.returns-clause-made
returns-clause-made g c =
    let q = g.Q.Question in
    let e = c.split_seat-seat.ensures in
    let pass = c.pass.inside.seat in
    let d = pass.me.0.giving in
    let gives = subst (λ (p : PassSeen g.row.Q.Denot). (0 < p.giving) × (p.giving < p.view.parts)) (sym c.pass.view_is) c.requires.giving in
    kept_by q.items q.size q.Fails c.args.self.now c.args.pass.now _ (effect.split_right d) (λ (v : View) f x h. absurd h) (λ h. gives.0) c.pass.view_is c.requires.pass.seat _ _ _ _ _ e.3 (ap (λ m. m.0.facts) e.4) (ap (λ m. m.0.view) e.4)
    (sound_by q.items q.size q.Fails c.args.self.now c.args.pass.now _ _ c.pass.view_is c.requires.pass (ap (λ m. m.0.view.seen) e.4) (λ l. subst ListsRise (sym (ap (λ m. m.0.view) e.4)) record { held = tt; seen = l.seen; made = tt; bare = tt }))
