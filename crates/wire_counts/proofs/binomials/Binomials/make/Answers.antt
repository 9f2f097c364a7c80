use Rattle.std.proofs.Common.{◌+◌, ◌*◌, ◌/◌, ◌∙◌, refl, arith}
use Rattle.std.proofs.lemmas.List.{length-set}
use Rattle.wire_counts.proofs.Choosing.{AreWays-next, AreBinomials-from_ways, weight-from_ways, ways-product, ways-divided}
use Rattle.wire_counts.proofs.binomials.Binomials.make.Goals as goal

pub overflow_mul-of_size : goal.overflow_mul-of_size
overflow_mul-of_size c =
    let b = ways-product c.args.weight c.loop-place.place c.loop-place.of_size c.from-lacking.result c.loop-place.invariant.last
    (c.from-lacking.ensures ∙ c.saturating_sub.ensures) c.requires (omega arith) in
    omega arith

pub loop-place-preserved : goal.loop-place-preserved
loop-place-preserved c =
    let number = c.loop-place.of_size * c.from-lacking.result / (c.loop-place.place + 1) in
    let last = ways-divided c.args.weight c.loop-place.place c.loop-place.of_size c.from-lacking.result c.loop-place.invariant.last
    (c.from-lacking.ensures ∙ c.saturating_sub.ensures) c.loop-place.place refl in
    record {
      six = length-set c.loop-place.numbers c.loop-place.place number ∙ c.loop-place.invariant.six;
      last = last;
      known = AreWays-next c.loop-place.numbers c.loop-place.place c.args.weight number (omega (arith, c.loop-place.invariant.six)) last c.loop-place.invariant.known;
    }

pub invariant_of-result : goal.invariant_of-result
invariant_of-result c = AreBinomials-from_ways c.loop-place.numbers c.loop-place.place c.args.weight (omega arith) c.loop-place.invariant.known

pub returns : goal.returns
returns c = weight-from_ways c.loop-place.numbers c.loop-place.place c.args.weight (omega arith) c.loop-place.invariant.known
