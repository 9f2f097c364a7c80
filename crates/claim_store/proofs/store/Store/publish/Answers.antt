use Rattle.std.proofs.Common.{ℕ, ◌≡◌, ◌+◌, ◌<◌, suc, arith, sym, ap, ◌∙◌, subst, refl, add-one, inl, inr}
use Rattle.std.proofs.lemmas.Bool.{cases_eq}
use Rattle.cover_core.specs.declared.state.View.{View}
use Rattle.cover_core.specs.Core.{path, times}
use Rattle.cover_core.specs.Effects.{Due}
use Rattle.cover_core.specs.Effects as effect
use Rattle.cover_core.proofs.Looked as looked
use Rattle.claim_store.specs.Seen.{StoreSeen, PassSeen}
use Rattle.claim_store.specs.Rule.{asked}
use Rattle.claim_store.proofs.Rows.{opened_at, kept_by}
use Rattle.claim_store.proofs.Moves.{due_allowed}
use Rattle.claim_store.proofs.store.Store.publish.Goals as goal

pub compare_exchange-requires : goal.compare_exchange-requires
compare_exchange-requires g c =
    let r = opened_at _ _ _ _ c.self.view_is c.pass.view_is c.requires.pass.seat in
    let words = c.self.invariant.words in
    let same = c.self.invariant.width_is in
    let pass = c.pass.inside.seat in
    let shared = c.self.inside.table.shared in
    let q = g.Q.Question in
    let k = c.args.step in
    let at = subst (λ (s : StoreSeen g.row.Q.Denot). (c.args.place ≡ path s.facts.width c.args.code k) × (c.args.place < s.facts.width) × (k < s.facts.width)) (sym c.self.view_is) (c.requires.place, c.requires.within, c.requires.short) in
    let due = subst (λ (p : PassSeen g.row.Q.Denot). Due (asked q.items q.size q.Fails shared.key) shared.key.width p.view k c.args.code) (sym c.pass.view_is)
    (subst (λ (s : StoreSeen g.row.Q.Denot). Due (asked q.items q.size q.Fails s.facts) s.facts.width c.args.pass.now.view k c.args.code) (sym c.self.view_is) c.requires.due) in
    let within = subst (λ (p : ℕ). p < shared.key.width) at.0 at.1 in
    (r.table, omega arith, due_allowed q.items q.size q.Fails shared.key shared.table_id.slots pass.id pass.me r.some_parts r.facts (c.args.place + 1) k c.args.code (add-one _ ∙ ap suc at.0) within at.2 c.requires.code due)

pub returns-clause-kept : goal.returns-clause-kept
returns-clause-kept g c =
    let q = g.Q.Question in
    let e = c.compare_exchange.ensures in
    let n = c.compare_exchange.result in
    let p = c.args.place in
    let code = c.args.code in
    let v = c.pass.inside.seat.me.0.view in
    elim (cases_eq n 0) [
      | inl hit ↦ kept_by q.items q.size q.Fails c.args.self.now c.args.pass.now _ (effect.publishes p code) (λ (v : View) f. looked.fresh-same v (effect.publishes p code v) refl (omega arith) f) (λ h. h) c.pass.view_is c.requires.pass.seat _ _ _ _ _ e.0 e.2.0.facts ((e.2.1 p refl).0 hit).0 e.2.0.sound
      | inr miss ↦ kept_by q.items q.size q.Fails c.args.self.now c.args.pass.now _ (effect.looks p n) (looked.looks-fresh p n) (λ h. subst (λ (k : ℕ). 0 < k) (sym (looked.looks-only p n v).parts) h) c.pass.view_is c.requires.pass.seat _ _ _ _ _ e.0 e.2.0.facts ((e.2.1 p refl).1 miss).0 e.2.0.sound
    ]

pub returns-clause-new : goal.returns-clause-new
returns-clause-new g c hit =
    let e = (c.compare_exchange.ensures.2.1 c.args.place refl).0 hit in
    let view = ap (λ (p : PassSeen g.row.Q.Denot). p.view) c.pass.view_is in
    (e.0 ∙ ap (λ (v : View). effect.publishes c.args.place c.args.code v) view, subst (λ (v : View). times c.args.code v.made ≡ 0) view e.1)

pub returns-clause-old : goal.returns-clause-old
returns-clause-old g c miss =
    let e = ((c.compare_exchange.ensures.2.1 c.args.place refl).1 miss).0 in
    let view = ap (λ (p : PassSeen g.row.Q.Denot). p.view) c.pass.view_is in
    e ∙ ap (λ (v : View). effect.looks c.args.place c.compare_exchange.result v) view

pub returns-clause-tight : goal.returns-clause-tight
returns-clause-tight g c miss =
    let facts = ap (λ (p : PassSeen g.row.Q.Denot). p.facts) c.pass.view_is ∙ c.requires.pass.seat.facts in
    ((c.compare_exchange.ensures.2.1 c.args.place refl).1 miss).1 c.args.self.now.facts facts
