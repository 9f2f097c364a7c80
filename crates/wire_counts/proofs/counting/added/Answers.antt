use Rattle.std.proofs.Common.{arith, refl, ◌∙◌}
use Rattle.std.proofs.lemmas.List.{length-set}
use Rattle.wire_counts.proofs.Walks.{AreAdded-next}
use Rattle.wire_counts.proofs.counting.added.Goals as goal

pub loop-place-preserved : goal.loop-place-preserved
loop-place-preserved c =
    let all = c.loop-place.invariant.all in
    record {
      all = length-set c.loop-place.sums c.loop-place.place _ ∙ all;
      sums = AreAdded-next c.args.left c.args.right c.loop-place.sums c.loop-place.place _ (omega arith) refl c.loop-place.invariant.sums;
    }
