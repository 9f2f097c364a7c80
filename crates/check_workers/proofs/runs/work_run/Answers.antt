use Rattle.std.proofs.Common.{◌≡◌, ℕ, sym, ◌∙◌, arith, subst, rules}
use Rattle.tuple_model.specs.Tuples.{HasRank}
use Rattle.claim_store.specs.Rule.{asked}
use Rattle.check_workers.specs.Works.{IsAtRank}
use Rattle.check_workers.proofs.Steps.{done_more, open-from_held, IsAtRank-next}
use Rattle.check_workers.proofs.runs.work_run.Goals as goal

pub judge_one-requires-clause-open : goal.judge_one-requires-clause-open
judge_one-requires-clause-open g c κs within =
    let q = g.Q.Question in
    let rank = c.loop-rank._rank in
    let P : g.row.Q.Denot → Type 0 = λ x. HasRank (q.items x) (q.size x) c.loop-rank.t rank in
    let ranked = subst P (sym c.requires.query) (c.loop-rank.invariant.here (let r = c.requires.ranks in let l = c.requires.last in let t = c.loop-rank-test.true in omega arith)) in
    open-from_held (asked q.items q.size q.Fails c.args.store.now.facts) rank c.loop-rank.t (c.args.range.from, c.args.range.to) c.args.pass.now.view c.loop-rank.pass.view ranked c.requires.held c.loop-rank.invariant.held (let f = c.requires.first in let a = c.loop-rank.auto._rank in omega arith) (let l = c.requires.last in let t = c.loop-rank-test.true in omega arith)

pub loop-rank-preserved : goal.loop-rank-preserved
loop-rank-preserved g c =
    let q = g.Q.Question in
    let query = c.args.query.now in
    let facts = c.args.store.now.facts in
    let rank = c.loop-rank._rank in
    let i = c.loop-rank.invariant in
    let e = c.judge_one.ensures in
    let n = c.next-more.ensures in
    let here = i.here (let r = c.requires.ranks in let l = c.requires.last in let t = c.loop-rank-test.true in omega arith) in
    let P : g.row.Q.Denot → Type 0 = λ x. HasRank (q.items x) (q.size x) c.loop-rank.t rank in
    record {
      here = IsAtRank-next (q.items query) (q.size query) c.items-items.result c.size-size.result rank c.loop-rank.t c.next-more.new.t c.next-more.result
          c.items-items.ensures.items c.size-size.ensures.size here n.next n.last;
      tuple = search rules;
      kept = e.kept;
      scratch = e.scratch;
      parts = e.worked.parts ∙ i.parts;
      held = e.worked.held ∙ i.held;
      cursor = let x = e.worked.cursor in let y = i.cursor in omega arith;
      done = done_more (asked q.items q.size q.Fails facts) facts.width c.args.range.from rank _ c.loop-rank.t c.loop-rank.pass.view c.judge_one.new.pass.view c.judge_one.result i.done e.worked (subst P (sym c.requires.query) here) e.came c.in_default.not-Full;
    }

pub returns-clause-here : goal.returns-clause-here
returns-clause-here g c _ =
    let q = g.Q.Question in
    let query = c.args.query.now in
    let same : c.loop-rank._rank ≡ c.args.to = let t = c.loop-rank-test.false in let s = c.requires.some in let a = c.loop-rank.auto._rank in omega arith in
    let P : ℕ → Type 0 = λ n. IsAtRank (q.items query) (q.size query) n c.loop-rank.t in
    subst P same c.loop-rank.invariant.here
