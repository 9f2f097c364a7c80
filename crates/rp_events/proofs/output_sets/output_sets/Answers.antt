use Rattle.std.proofs.Common.{arith}
use Rattle.rp_events.specs.Choices.{indices_meant}
use Rattle.rp_events.proofs.ShareSums.{sets_next, sets_end}
use Rattle.rp_events.proofs.output_sets.output_sets.Goals as goal

pub loop-output-preserved : goal.loop-output-preserved
loop-output-preserved c = record {
  listed =
      sets_next indices_meant c.args.given.now c.loop-output.output c.index-given-output.result c.loop-output.sets.items c.deref.result.now _ _
      (omega arith) c.index-given-output.is c.deref.ensures.value c.in_ok-sets.ensures.sets c.loop-output.invariant.listed;
  below = c.in_ok-sets.ensures.below;
}

pub returns : goal.returns
returns c =
    sets_end indices_meant c.args.given.now c.loop-output.output c.loop-output.sets.items _ (omega arith) c.loop-output.invariant.listed
