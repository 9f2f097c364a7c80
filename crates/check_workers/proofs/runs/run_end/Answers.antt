use Rattle.std.proofs.Common.{arith}
use Rattle.check_workers.proofs.Prefixes.{shares-prefix}
use Rattle.check_workers.proofs.runs.run_end.Goals as goal

pub returns-clause-share : goal.returns-clause-share
returns-clause-share g c =
    let q = g.Q.Question in
    let query = c.args.query.now in
    let e = c.left_in_run.ensures in
    shares-prefix (q.items query) (q.size query) c.args.rank _ c.left_in_run.result c.args.t.now c.requires.ranked (omega arith) e.alone e.left
