use Rattle.std.proofs.Common.{◌≡◌, ℕ, ◌<◌, ◌+◌, List, ap, sym, ◌∙◌, arith, subst, refl, rules, below_more}
use Rattle.tuple_model.specs.Tuples.{subset}
use Rattle.cover_core.specs.Core.{question_of}
use Rattle.cover_core.proofs.Having.{within-numbered, seen-here, seen-back}
use Rattle.cover_core.proofs.conditions.sees_within.Goals as goal

pub returns-then-has_code : goal.returns-then-has_code
returns-then-has_code g c =
    let q = g.Q.Question in
    let a = question_of (q.items c.args.query.now) (q.size c.args.query.now) (q.Fails c.args.query.now) in
    let k = c.loop-k.k in
    let code = c.subset_codes-codes.ensures.codes k (omega (arith, c.loop-k-test.true, c.subset_count-k-end.ensures.count)) in
    (λ _. seen-here a c.args.t.now c.args.view.now c.as_slice-seen.result.now k _ c.requires c.as_slice-seen.ensures code (c.if-has_code.ensures.0 refl), λ _. refl)

pub loop-k-preserved : goal.loop-k-preserved
loop-k-preserved g c =
    let k = c.loop-k.k in
    below_more _ _ c.loop-k.invariant (λ less saw.
    let r = c.if-has_code.ensures.1 (seen-back c.args.t.now c.args.view.now c.as_slice-seen.result.now k _ c.as_slice-seen.ensures (c.subset_codes-codes.ensures.codes k less) saw) in absurd (search rules))

pub returns : goal.returns
returns g c =
    let q = g.Q.Question in
    let a = question_of (q.items c.args.query.now) (q.size c.args.query.now) (q.Fails c.args.query.now) in (
      λ h. absurd (search rules),
      λ h.
          let n = within-numbered a c.args.t.now c.args.view.now c.requires h in
          absurd (c.loop-k.invariant n.0 (omega (arith, n.1, c.loop-k-test.false, c.subset_count-k-end.ensures.count)) n.1 n.2),
    )
