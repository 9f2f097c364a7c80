use Rattle.std.proofs.Common.{◌≤◌, sym, subst, arith, ◌∙◌}
use Rattle.claim_store.specs.Rule.{asked}
use Rattle.check_workers.specs.Works.{ShareItems, prefix_of}
use Rattle.check_workers.proofs.Prefixes.{done_on, done_run}
use Rattle.check_workers.proofs.serve.work_range.Goals as goal

pub work_run-requires-clause-before : goal.work_run-requires-clause-before
work_run-requires-clause-before g c κs within =
    let q = g.Q.Question in
    done_on (asked q.items q.size q.Fails c.args.store.now.facts) c.args.store.now.facts.width c.args.range.from c.loop-rank.rank c.loop-rank.pass.view c.is_prefix_covered.new.pass.view c.is_prefix_covered.ensures.further c.loop-rank.invariant.done

pub loop-rank-preserved-then-is_prefix_covered : goal.loop-rank-preserved-then-is_prefix_covered
loop-rank-preserved-then-is_prefix_covered g c =
    let q = g.Q.Question in
    let i = c.loop-rank.invariant in
    let e = c.is_prefix_covered.ensures in
    let a = asked q.items q.size q.Fails c.args.store.now.facts in
    let end = c.run_end-to.ensures in
    let P : g.row.Q.Denot → Type 0 = λ x. ShareItems (q.items x) (q.size x) (prefix_of c.loop-rank.t) c.loop-rank.rank c.run_end-to.result in
    let share = subst P (sym c.requires.query) end.share in
    record {
      here = c.tuple_at-t.ensures.at;
      tuple = c.tuple_at-t.ensures.tuple;
      low = let l = i.low in let m = end.more in omega arith;
      high = end.most;
      kept = e.kept;
      scratch = i.scratch;
      parts = e.further.only.parts ∙ i.parts;
      held = e.further.only.held ∙ i.held;
      cursor = let l = i.cursor in let m = e.further.only.cursor in omega arith;
      done = done_run a c.args.range.from c.loop-rank.rank c.run_end-to.result (prefix_of c.loop-rank.t) c.is_prefix_covered.new.pass.view
          (done_on a c.args.store.now.facts.width c.args.range.from c.loop-rank.rank c.loop-rank.pass.view c.is_prefix_covered.new.pass.view e.further i.done) (e.covered c.if-is_prefix_covered.true) share;
    }
