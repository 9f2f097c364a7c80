use Rattle.std.proofs.Common.{arith}
use Rattle.wire_counts.proofs.counting.fn.count_sets.map.Goals as goal

pub count_range-requires : goal.count_range-requires
count_range-requires c = record {
  limits = c.requires.0;
  ranks = omega (arith, c.requires, c.of_block.ensures);
}
