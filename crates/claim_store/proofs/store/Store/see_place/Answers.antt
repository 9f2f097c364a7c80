use Rattle.std.proofs.Common.{ℕ, ◌+◌, ◌<◌, arith, sym, ap, ◌∙◌, subst, refl, add-one}
use Rattle.cover_core.specs.Effects as effect
use Rattle.cover_core.proofs.Looked as looked
use Rattle.claim_store.specs.Seen.{StoreSeen, PassSeen}
use Rattle.claim_store.specs.Rule.{Agrees}
use Rattle.claim_store.proofs.Rows.{opened_at, kept_by}
use Rattle.claim_store.proofs.Moves.{sees_place}
use Rattle.claim_store.proofs.store.Store.see_place.Goals as goal

pub load-requires : goal.load-requires
load-requires g c =
    let r = opened_at _ _ _ _ c.self.view_is c.pass.view_is c.requires.pass.seat in
    let words = c.self.invariant.words in
    let same = c.self.invariant.width_is in
    let pass = c.pass.inside.seat in
    let shared = c.self.inside.table.shared in
    let q = g.Q.Question in
    let less = subst (λ (s : StoreSeen g.row.Q.Denot). c.args.place < s.facts.width) (sym c.self.view_is) c.requires.place in
    (r.table, omega arith, sees_place q.items q.size q.Fails shared.key shared.table_id.slots pass.id pass.me r.some_parts r.facts (c.args.place + 1) c.args.place (add-one _) less)

pub returns-clause-kept : goal.returns-clause-kept
returns-clause-kept g c =
    let q = g.Q.Question in
    let e = c.load.ensures in
    let n = c.load.result in
    let p = c.args.place in
    kept_by q.items q.size q.Fails c.args.self.now c.args.pass.now _ (effect.looks p n) (looked.looks-fresh p n) (λ h. subst (λ (k : ℕ). 0 < k) (sym (looked.looks-only p n c.pass.inside.seat.me.0.view).parts) h) c.pass.view_is c.requires.pass.seat _ _ _ _ _ e.0 e.2.0.facts (e.2.2 p refl).0 e.2.0.sound

pub returns-clause-agrees : goal.returns-clause-agrees
returns-clause-agrees g c =
    let facts = ap (λ (p : PassSeen g.row.Q.Denot). p.facts) c.pass.view_is ∙ c.requires.pass.seat.facts in
    let told = (c.load.ensures.2.2 c.args.place refl).1 c.args.self.now.facts facts in
    subst (λ (p : PassSeen g.row.Q.Denot). Agrees c.args.self.now.facts p.view c.args.place c.load.result) c.pass.view_is told
