use Rattle.std.proofs.Common.{◌≡◌, ℕ, ◌<◌, arith, refl, true, false, sym, ◌∙◌}
use Rattle.std.proofs.lemmas.Bool.{false≢true}
use Rattle.tuple_model.proofs.Ranks.{IsTuple-from_rank}
use Rattle.tuple_model.specs.Tuples.{HasRank}
use Rattle.cover_core.specs.Core.{question_of}
use Rattle.cover_core.proofs.Storing.{publish-fits, publish-passed, may_publish, rank-of}
use Rattle.cover_core.proofs.conditions.may_store.Goals as goal

pub returns-then-not-fits-clause-not : goal.returns-then-not-fits-clause-not
returns-then-not-fits-clause-not g c = λ _ s wide h.
    let q = g.Q.Question in
    false≢true (c.if-not-fits.ensures.1 (IsTuple-from_rank (q.items c.args.query.now) (q.size c.args.query.now) h.rank c.args.t.now h.ranked))

pub returns-then-not-is_open-clause-not : goal.returns-then-not-is_open-clause-not
returns-then-not-is_open-clause-not g c = λ _ s wide h.
    let q = g.Q.Question in
    let a = question_of (q.items c.args.query.now) (q.size c.args.query.now) (q.Fails c.args.query.now) in
    let ranked = rank-of c.items.result c.size.result _ _ c.args.t.now c.rank.result c.items.ensures.items c.size.ensures.size c.rank.ensures.rank in
    false≢true (c.if-not-is_open.ensures.1 (publish-fits a s c.args.view.now c.args.place c.args.t.now h c.rank.result ranked))

pub returns-then-has_passed-clause-may : goal.returns-then-has_passed-clause-may
returns-then-has_passed-clause-may g c = λ is s wide.
    let q = g.Q.Question in
    let a = question_of (q.items c.args.query.now) (q.size c.args.query.now) (q.Fails c.args.query.now) in
    let ranked = rank-of c.items.result c.size.result _ _ c.args.t.now c.rank.result c.items.ensures.items c.size.ensures.size c.rank.ensures.rank in
    let step = c.step_to-step in
    may_publish a s c.args.view.now c.args.width c.args.place step.result c.rank.result c.args.t.now c.code-code.result wide c.code-code.ensures.code (c.judge.ensures.fails is) ranked (c.if-not-is_open.ensures.0 refl) step.ensures.step step.ensures.short c.if-width-place.false (c.if-has_passed.ensures.0 refl)

pub returns-else-has_passed-clause-not : goal.returns-else-has_passed-clause-not
returns-else-has_passed-clause-not g c = λ _ s wide h.
    let q = g.Q.Question in
    let a = question_of (q.items c.args.query.now) (q.size c.args.query.now) (q.Fails c.args.query.now) in
    let step = c.step_to-step in
    let w = c.requires.width in
    false≢true (c.if-has_passed.ensures.1 (publish-passed a s c.args.view.now c.args.width c.args.place step.result w.0 c.args.t.now c.code-code.result w.1 (omega arith) wide c.code-code.ensures.code step.ensures.step step.ensures.short h))
