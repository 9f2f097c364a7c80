use Rattle.std.proofs.Common.{◌≡◌, ◌-◌, ◌*◌, ◌<◌, length, ap, ◌∙◌, arith}
use Rattle.std.specs.List.{range_with_len}
use Rattle.rayon.specs.Numbers.{nat_range}
use Rattle.rayon.proofs.ToStd.{nat_range-All}
use Rattle.tuple_model.specs.Tuples.{tuples}
use Rattle.tuple_order.proofs.Blocks.{block-begins}
use Rattle.wire_counts.specs.Ways.{IsWithinLimits}
use Rattle.wire_counts.proofs.Blocks.{IsCoefficient-blocks}
use Rattle.wire_counts.proofs.counting.count_sets.Goals as goal

pub reduce-requires-clause-ready : goal.reduce-requires-clause-ready
reduce-requires-clause-ready g c κs within =
    let ends = c.into_par_iter.ensures in
    let weights = c.args.binomials.now in
    let size = c.args.size in
    let ranks = c.count-ranks.result in
    let block = c.args.block in
    let inside = nat_range-All (λ number. IsWithinLimits weights size × (0 < block) × (number * block < ranks) × (ranks ≡ length (tuples (length weights) size)))
    0 c.div_ceil-blocks.result
    (λ number low high. (c.requires.limits, c.requires.block, block-begins ranks block number c.requires.block (omega (arith, c.div_ceil-blocks.ensures)), c.count-ranks.ensures)) in
    rw (c.map.ensures.base, c.map.ensures.f, c.with_min_len.ensures.base, ends.0, ends.1) (λ k d lt. (inside k d lt, λ y p. tt))

pub returns : goal.returns
returns g c =
    let ends = c.into_par_iter.ensures in
    let blocks = c.div_ceil-blocks.result in
    let whole : blocks - 0 ≡ blocks = omega arith in
    let done = c.reduce.ensures in
    let chain = rw (c.map.ensures.base, c.map.ensures.f) at done.1 in
    let places = chain.1 ∙ ap (λ it. nat_range it.start it.end) c.with_min_len.ensures.base ∙ (λ i. nat_range (ends.0 i) (ends.1 i)) ∙ ap (range_with_len 0) whole
    ∙ ap (range_with_len 0) c.div_ceil-blocks.ensures in
    IsCoefficient-blocks c.args.list.now c.args.binomials.now c.args.size c.args.block c.count-ranks.result _ _ (λ row z. z) (λ xs ys sums a. a)
    chain.0 done.0 c.reduce.result c.requires.limits c.requires.block c.count-ranks.ensures places chain.2 done.2
