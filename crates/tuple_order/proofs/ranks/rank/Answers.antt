use Rattle.std.proofs.Common.{◌+◌, arith}
use Rattle.std.proofs.lemmas.Option.{slice_get_within}
use Rattle.tuple_model.specs.Tuples.{tuples}
use Rattle.tuple_order.proofs.Counting.{length-tuples-bound}
use Rattle.tuple_order.proofs.Ranking.{rank-from_found}
use Rattle.tuple_order.proofs.ranks.rank.Goals as goal

pub overflow_add-result : goal.overflow_add-result
overflow_add-result c =
    let e = rank-from_found c.args.items c.args.size c.args.t.now c.items-chosen.result.now c.count_of_fewer.result c.place_of.result c.requires.fits c.items-chosen.ensures.items c.count_of_fewer.ensures c.place_of.ensures in
    let l = slice_get_within (tuples c.args.items c.args.size) (c.count_of_fewer.result + c.place_of.result) c.args.t.now e in
    let b = length-tuples-bound c.args.items c.args.size c.requires.items_at_most c.requires.size_at_most in
    omega arith

pub returns-clause-rank : goal.returns-clause-rank
returns-clause-rank c = rank-from_found c.args.items c.args.size c.args.t.now c.items-chosen.result.now c.count_of_fewer.result c.place_of.result c.requires.fits c.items-chosen.ensures.items c.count_of_fewer.ensures c.place_of.ensures

pub returns-clause-below : goal.returns-clause-below
returns-clause-below c =
    let e = rank-from_found c.args.items c.args.size c.args.t.now c.items-chosen.result.now c.count_of_fewer.result c.place_of.result c.requires.fits c.items-chosen.ensures.items c.count_of_fewer.ensures c.place_of.ensures in
    slice_get_within (tuples c.args.items c.args.size) (c.count_of_fewer.result + c.place_of.result) c.args.t.now e
