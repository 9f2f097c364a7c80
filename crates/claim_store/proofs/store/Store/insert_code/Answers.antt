use Rattle.std.proofs.Common.{ℕ, ◌≡◌, ◌+◌, ◌%◌, ◌<◌, List, arith, sym, ap, ◌∙◌, subst}
use Rattle.cover_core.specs.declared.state.View.{View}
use Rattle.cover_core.specs.Core.{times}
use Rattle.cover_core.specs.Effects.{Further, PassedBy, Seen, put_number, publishes}
use Rattle.cover_core.proofs.Paths.{path-next, path-first}
use Rattle.cover_core.proofs.Looked as looked
use Rattle.cover_core.proofs.Lists.{put_pair-here, put_pair-on}
use Rattle.claim_store.specs.Seen.{StoreSeen, Published}
use Rattle.claim_store.proofs.store.Store.insert_code.Goals as goal

published-by : (n : ℕ) (u v w : View) (p c : ℕ) → Further n u v → w ≡ publishes p c v → Published n u w c × Seen c w
published-by n u v w p c g e = let f = g.only in subst (λ (x : View). Published n u x c × Seen c x) (sym e) (
  record {
    parts = f.parts;
    held = f.held;
    made = ap (put_number c) f.made;
    cursor = let a = f.cursor in omega arith;
    moves = let a = f.moves in omega arith;
    seen = λ x h. put_pair-on x (p, c) v.seen (f.seen x h);
    shows = λ d m h. looked.publishes-shows n p c v d m (g.shows d m h);
  },
  (p, put_pair-here (p, c) v.seen),
)

pub loop-step-init : goal.loop-step-init
loop-step-init g c = record {
  kept = c.requires.pass;
  further = looked.further-same _ _;
  place = c.home-place.ensures.home ∙ path-first _ _ (subst (λ (n : ℕ). n < c.args.self.now.facts.width) c.home-place.ensures.home c.home-place.ensures.within);
  within = c.home-place.ensures.within;
  passed = λ j l. absurd (omega arith);
  tight = λ l. absurd (omega arith);
}

pub publish-found-requires-clause-due : goal.publish-found-requires-clause-due
publish-found-requires-clause-due g c κs within =
    let i = c.loop-step.invariant in
    looked.due-on _ _ _ _ c.args.pass.now.view c.loop-step.pass.view i.further.only.held i.passed c.requires.due

pub returns-then-found-eq0-clause-answer : goal.returns-then-found-eq0-clause-answer
returns-then-found-eq0-clause-answer g c =
    let i = c.loop-step.invariant in
    let e = c.publish-found.ensures.new c.if-found-eq0.true in
    let p = published-by _ _ _ _ _ c.args.code i.further e.0 in
    (p.0, subst (λ (l : List ℕ). times c.args.code l ≡ 0) i.further.only.made e.1, p.1)

pub returns-then-found-code-clause-answer : goal.returns-then-found-code-clause-answer
returns-then-found-code-clause-answer g c =
    let i = c.loop-step.invariant in
    let e = c.publish-found.ensures.old c.if-found-eq0.false in
    (looked.further-on _ _ _ _ _ _ i.kept.seat.fresh i.further e, looked.sees-it _ _ _ _ c.args.code c.if-found-code.true c.requires.code e)

pub loop-step-preserved : goal.loop-step-preserved
loop-step-preserved g c =
    let i = c.loop-step.invariant in
    let e = c.publish-found.ensures.old c.if-found-eq0.false in
    let next = c.place_after-place.ensures in
    record {
      kept = c.publish-found.ensures.kept;
      further = looked.further-on _ _ _ _ _ _ i.kept.seat.fresh i.further e;
      place = next.next ∙ ap (λ (p : ℕ). (p + 1) % c.args.self.now.facts.width) i.place ∙ path-next c.args.self.now.facts.width c.args.code c.loop-step.step;
      within = next.within;
      passed = looked.passed-now _ c.args.code c.loop-step.step _ _ _ _ c.if-found-eq0.false c.if-found-code.false i.place e i.passed;
      tight = λ some_steps. c.publish-found.ensures.tight c.if-found-eq0.false;
    }

pub returns-clause-answer : goal.returns-clause-answer
returns-clause-answer g c =
    let i = c.loop-step.invariant in
    let d = c.requires.due in
    let some = c.self.invariant.some in
    let wd : c.self.inside.width ≡ c.args.self.now.facts.width = sym c.self.invariant.width_is ∙ ap (λ (s : StoreSeen g.row.Q.Denot). s.facts.width) c.self.view_is in
    let whole : c.loop-step.step ≡ c.args.self.now.facts.width = let t = c.loop-step-test.false in omega arith in
    let passed = subst (λ (k : ℕ). PassedBy c.args.self.now.facts.width c.args.code k c.loop-step.pass.view) whole i.passed in
    (i.further, passed, i.tight (omega arith) d.tuple d.rank d.ranked d.coded passed)
