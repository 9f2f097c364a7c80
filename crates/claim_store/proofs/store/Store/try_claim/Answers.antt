use Rattle.std.proofs.Common.{arith, refl, sym, ap, ◌∙◌, subst, ◌≤◌, inl, inr}
use Rattle.std.proofs.lemmas.Bool.{cases_eq}
use Rattle.cover_core.specs.declared.state.View.{View}
use Rattle.cover_core.specs.Effects as effect
use Rattle.cover_core.proofs.Looked as looked
use Rattle.claim_store.specs.Seen.{StoreSeen, PassSeen}
use Rattle.claim_store.specs.Rule.{full}
use Rattle.claim_store.proofs.Rows.{opened_at, kept_by}
use Rattle.claim_store.proofs.Moves.{claims}
use Rattle.claim_store.proofs.store.Store.try_claim.Goals as goal

pub compare_exchange-requires : goal.compare_exchange-requires
compare_exchange-requires g c =
    let r = opened_at _ _ _ _ c.self.view_is c.pass.view_is c.requires.pass.seat in
    let words = c.self.invariant.words in
    let pass = c.pass.inside.seat in
    let shared = c.self.inside.table.shared in
    let q = g.Q.Question in
    let mine = ap (λ (p : PassSeen g.row.Q.Denot). p.view.cursor) c.pass.view_is ∙ c.requires.known in
    let most = subst (λ (s : StoreSeen g.row.Q.Denot). c.args.to ≤ full q.items q.size s.facts.query.value) (sym c.self.view_is) c.requires.within in
    (r.table, omega arith, claims q.items q.size q.Fails shared.key shared.table_id.slots pass.id pass.me r.some_parts r.facts c.args.from c.args.to mine c.requires.range most)

pub returns-clause-kept : goal.returns-clause-kept
returns-clause-kept g c =
    let q = g.Q.Question in
    let e = c.compare_exchange.ensures in
    let n = c.compare_exchange.result in
    let to = c.args.to in
    elim (cases_eq n c.args.from) [
      | inl hit ↦ kept_by q.items q.size q.Fails c.args.self.now c.args.pass.now _ (effect.opens to) (λ (v : View) f. looked.fresh-same v (effect.opens to v) refl (omega arith) f) (λ h. h) c.pass.view_is c.requires.pass.seat _ _ _ _ _ e.0 e.2.0.facts (e.2.2 hit) e.2.0.sound
      | inr miss ↦ kept_by q.items q.size q.Fails c.args.self.now c.args.pass.now _ (effect.knows n) (λ (v : View) f. looked.fresh-same v (effect.knows n v) refl (omega arith) f) (λ h. h) c.pass.view_is c.requires.pass.seat _ _ _ _ _ e.0 e.2.0.facts (e.2.3 miss) e.2.0.sound
    ]
