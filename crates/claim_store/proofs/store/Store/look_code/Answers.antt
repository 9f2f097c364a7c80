use Rattle.std.proofs.Common.{ℕ, ◌≡◌, ◌+◌, ◌%◌, ◌<◌, ◌≤◌, arith, sym, ap, ◌∙◌, subst}
use Rattle.tuple_model.specs.Limits.{most_items, most_size}
use Rattle.cover_core.specs.declared.state.View.{View}
use Rattle.cover_core.specs.Core.{Saw, path, IsFailing}
use Rattle.cover_core.specs.Effects.{Unseen}
use Rattle.cover_core.proofs.Paths.{path-onto, path-next, path-first}
use Rattle.cover_core.proofs.Law.{failing-from_fits}
use Rattle.cover_core.proofs.Looked as looked
use Rattle.claim_store.specs.Rule.{full, asked}
use Rattle.claim_store.specs.Seen.{StoreSeen}
use Rattle.claim_store.proofs.Moves.{seen_further}
use Rattle.claim_store.proofs.store.Store.look_code.Goals as goal

-- a code that the view has seen stands on its path
unseen-path : (n c : ℕ) (v : View) → ((p : ℕ) → Saw p c v → p < n) → ((k : ℕ) → k < n → Saw (path n c k) c v → ⊥) → Unseen c v
unseen-path n c v inside none p saw =
    let at = path-onto n c p (inside p saw) in
    let P : ℕ → Type 0 = λ q. Saw q c v in
    none at.0 at.1 (subst P (sym at.2) saw)

pub loop-step-init : goal.loop-step-init
loop-step-init g c = record {
  kept = c.requires.pass;
  further = looked.further-same _ _;
  place = c.home-place.ensures.home ∙ path-first _ _ (subst (λ (n : ℕ). n < c.args.self.now.facts.width) c.home-place.ensures.home c.home-place.ensures.within);
  within = c.home-place.ensures.within;
  passed = λ j l. absurd (omega arith);
  unseen = λ k less saw. omega arith;
  inside = λ p l. absurd (omega arith);
}

pub returns-then-found-code-clause-further : goal.returns-then-found-code-clause-further
returns-then-found-code-clause-further g c = looked.further-on _ _ _ _ _ _ c.loop-step.invariant.kept.seat.fresh c.loop-step.invariant.further c.see_place-found.ensures.view

pub returns-then-found-eq0-clause-further : goal.returns-then-found-eq0-clause-further
returns-then-found-eq0-clause-further g c = looked.further-on _ _ _ _ _ _ c.loop-step.invariant.kept.seat.fresh c.loop-step.invariant.further c.see_place-found.ensures.view

pub returns-then-found-code-clause-sound : goal.returns-then-found-code-clause-sound
returns-then-found-code-clause-sound g c _ =
    let q = g.Q.Question in
    let i = c.self.invariant in
    let facts = c.args.self.now.facts in
    let a = asked q.items q.size q.Fails facts in
    let e = c.if-found-code.true in
    let few = subst (λ (s : StoreSeen g.row.Q.Denot). q.items s.facts.query.value ≤ most_items) c.self.view_is i.items_few in
    let small = subst (λ (s : StoreSeen g.row.Q.Denot). q.size s.facts.query.value ≤ most_size) c.self.view_is i.size_small in
    subst (IsFailing a) e (failing-from_fits a (full q.items q.size facts.query.value) _ few small (c.see_place-found.ensures.sound (λ z. c.requires.code (sym e ∙ z))))

pub returns-then-found-code-clause-found : goal.returns-then-found-code-clause-found
returns-then-found-code-clause-found g c _ = looked.sees-it _ _ _ _ c.args.code c.if-found-code.true c.requires.code c.see_place-found.ensures.view

pub returns-then-found-eq0-clause-absent : goal.returns-then-found-eq0-clause-absent
returns-then-found-eq0-clause-absent g c _ =
    let i = c.loop-step.invariant in
    let wd : c.self.inside.width ≡ c.args.self.now.facts.width = sym c.self.invariant.width_is ∙ ap (λ (s : StoreSeen g.row.Q.Denot). s.facts.width) c.self.view_is in
    looked.absent-now _ c.args.code c.loop-step._step _ _ _ _ _ c.if-found-eq0.true i.place c.see_place-found.ensures.view (omega (arith, wd, c.loop-step-test.true)) i.further.only.moves i.passed

pub returns-then-found-eq0-clause-unseen : goal.returns-then-found-eq0-clause-unseen
returns-then-found-eq0-clause-unseen g c _ =
    let i = c.loop-step.invariant in
    let agrees = c.see_place-found.ensures.agrees in
    unseen-path c.args.self.now.facts.width c.args.code c.args.pass.now.view
    (λ p saw. agrees.inside p c.args.code (i.further.only.seen _ saw))
    (λ k less saw. (seen_further c.args.self.now.facts c.loop-step.pass.view _ _ c.args.code c.loop-step._step k agrees i.place c.requires.code c.if-found-code.false less (i.unseen k less saw) (i.further.only.seen _ saw)).0 c.if-found-eq0.true)

pub loop-step-preserved : goal.loop-step-preserved
loop-step-preserved g c =
    let i = c.loop-step.invariant in
    let agrees = c.see_place-found.ensures.agrees in
    let next = c.place_after-place.ensures in
    record {
      kept = c.see_place-found.ensures.kept;
      further = looked.further-on _ _ _ _ _ _ i.kept.seat.fresh i.further c.see_place-found.ensures.view;
      place = next.next ∙ ap (λ (p : ℕ). (p + 1) % c.args.self.now.facts.width) i.place ∙ path-next c.args.self.now.facts.width c.args.code c.loop-step._step;
      within = next.within;
      passed = looked.passed-now _ c.args.code c.loop-step._step _ _ _ _ c.if-found-eq0.false c.if-found-code.false i.place c.see_place-found.ensures.view i.passed;
      unseen = λ k less saw. (seen_further c.args.self.now.facts c.loop-step.pass.view _ _ c.args.code c.loop-step._step k agrees i.place c.requires.code c.if-found-code.false less (i.unseen k less saw) (i.further.only.seen _ saw)).1;
      inside = λ p some_steps saw. agrees.inside p c.args.code (i.further.only.seen _ saw);
    }

pub returns-clause-unseen : goal.returns-clause-unseen
returns-clause-unseen g c e =
    let i = c.loop-step.invariant in
    let some = c.self.invariant.some in
    let wd : c.self.inside.width ≡ c.args.self.now.facts.width = sym c.self.invariant.width_is ∙ ap (λ (s : StoreSeen g.row.Q.Denot). s.facts.width) c.self.view_is in
    unseen-path c.args.self.now.facts.width c.args.code c.args.pass.now.view
    (λ p saw. i.inside p (let t = c.loop-step-test.false in omega arith) saw)
    (λ k less saw. let low = i.unseen k less saw in omega (arith, wd, c.loop-step-test.false))
