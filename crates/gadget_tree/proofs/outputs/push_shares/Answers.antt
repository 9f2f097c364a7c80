use Rattle.std.proofs.Common.{sym, ◌∙◌}
use Rattle.gadget_tree.proofs.MissingShares.{missing_here, one_more_there, one_more_number}
use Rattle.gadget_tree.proofs.outputs.push_shares.Goals as goal

pub returns-in_default-clause-says : goal.returns-in_default-clause-says
returns-in_default-clause-says c = λ _.
    missing_here c.args.variables.now c.args.shares c.args.output c.loop-index.index c.args.stem.now c.bytes.result.now c.loop-index-test.true c.loop-index.invariant.all
    (c.bytes.ensures ∙ c.in_ok-name.ensures) (sym c.in_default.ensures.among)

pub loop-index-preserved : goal.loop-index-preserved
loop-index-preserved c =
    let name = c.bytes.ensures ∙ c.in_ok-name.ensures in
    let vs = c.args.variables.now in
    record {
      numbers = c.in_ok-push.ensures.items ∙ one_more_number vs c.args.numbers.now.items c.loop-index.numbers.items c.loop-index.index c.in-Some.number c.args.stem.now c.bytes.result.now c.loop-index.invariant.numbers name c.in-Some.ensures.place;
      all = one_more_there vs c.args.output c.loop-index.index c.args.stem.now c.bytes.result.now c.loop-index.invariant.all name (sym c.in-Some.ensures.among);
    }
