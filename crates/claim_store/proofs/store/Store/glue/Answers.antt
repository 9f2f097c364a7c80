use Rattle.std.proofs.Common.{arith, ap, refl}
use Rattle.cover_core.specs.declared.state.View.{View}
use Rattle.cover_core.specs.Effects as effect
use Rattle.cover_core.proofs.Looked as looked
use Rattle.claim_store.proofs.Rows.{opened_at, seated_by}
use Rattle.claim_store.proofs.Moves.{gluing_allowed}
use Rattle.claim_store.proofs.store.Store.glue.Goals as goal

pub join_seat-requires : goal.join_seat-requires
join_seat-requires g c =
    let r = opened_at _ _ _ _ c.self.view_is c.pass.view_is c.requires.pass in
    let words = c.self.invariant.words in
    let pass = c.pass.inside.seat in
    let shared = c.self.inside.table.shared in
    let q = g.Q.Question in
    let o = opened_at _ _ _ _ c.self.view_is c.other.view_is c.requires.other in
    let u = c.other.inside.seat in
    (r.table, o.table, c.other.invariant, omega arith, gluing_allowed q.items q.size q.Fails shared.key shared.table_id.slots pass.id pass.me r.some_parts r.facts u.id u.me.0)

pub returns-clause-seat : goal.returns-clause-seat
returns-clause-seat g c =
    let e = c.join_seat.ensures in
    let u = c.other.inside.seat.me.0.view in
    seated_by c.args.self.now c.args.pass.now _ (λ v. effect.joins v u) (λ (v : View) f. looked.fresh-same v (effect.joins v u) refl (omega arith) f) (λ h. omega arith) c.pass.view_is c.requires.pass _ _ _ _ _ e.0 (ap (λ m. m.0.facts) e.2) (ap (λ m. m.0.view) e.2)
