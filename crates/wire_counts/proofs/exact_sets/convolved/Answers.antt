use Rattle.std.proofs.Common.{◌≡◌, ◌+◌, ◌-◌, ap, slice_index, arith}
use Rattle.wire_counts.specs.Ways.{ways_to_choose, convolution}
use Rattle.wire_counts.proofs.Convolutions.{terms, terms-all}
use Rattle.wire_counts.proofs.exact_sets.convolved.Goals as goal

pub loop-taken-init : goal.loop-taken-init
loop-taken-init c =
    let a = ways_to_choose c.args.binomials.now in
    let b = slice_index c.args.sets.now in
    let n = c.args.more in
    let e = ap (terms a b n) (let f : n + 1 - 0 ≡ n + 1 = omega arith in f) in
    let f = terms-all a b n in
    let g : 0 + terms a b n (n + 1 - 0) ≡ convolution a b n = omega arith in
    g
