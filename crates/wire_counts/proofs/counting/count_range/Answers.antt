use Rattle.std.proofs.Common.{◌+◌, length, sym, subst, arith}
use Rattle.wire_counts.proofs.Passes.{CountsFrom, IsAt-next, CountsFrom-covered, CountsFrom-other, counted-fits, AreCounted-end, Covers-found, Covers-not_found}
use Rattle.wire_counts.proofs.counting.count_range.Goals.{then-is_some, else-is_some}
use Rattle.wire_counts.proofs.counting.count_range.Goals as goal

pub add_sets-requires-clause-fits : goal.add_sets-requires-clause-fits
add_sets-requires-clause-fits c =
    let here = c.loop-rank.invariant.here (let m = c.requires.ranks in omega arith) in
    counted-fits c.args.list.now c.args.binomials.now c.args.size c.args.range.from c.loop-rank._rank c.loop-rank.t c.loop-rank.numbers c.requires.limits
    here (Covers-found c.args.list.now c.loop-rank.t c.covers.result c.is_some.result c.covers.ensures.first c.is_some.ensures c.if-is_some.true)
    c.loop-rank.invariant.counted

pub loop-rank-preserved : goal.loop-rank-preserved
loop-rank-preserved c =
    let list = c.args.list.now in
    let weights = c.args.binomials.now in
    let size = c.args.size in
    let from = c.args.range.from in
    let rank = c.loop-rank._rank in
    let t = c.loop-rank.t in
    let here = c.loop-rank.invariant.here (let m = c.requires.ranks in omega arith) in
    record {
      here = IsAt-next (length weights) size rank t c.next-more.new.t c.next-more.result here c.next-more.ensures.next c.next-more.ensures.last;
      tuple = c.next-more.ensures.tuple;
      counted = elim c.if-is_some.branch [
        | then-is_some w ↦
            let covers = Covers-found list t c.covers.result c.is_some.result c.covers.ensures.first c.is_some.ensures w.if-is_some.true in
            subst (CountsFrom list weights size from (rank + 1)) (sym w.numbers-is)
            (CountsFrom-covered list weights size from rank t c.loop-rank.numbers w.add_sets.new.numbers here covers w.add_sets.ensures c.loop-rank.invariant.counted)
        | else-is_some w ↦
            let other = Covers-not_found list t c.covers.result c.is_some.result c.covers.ensures.none c.is_some.ensures w.if-is_some.false in
            subst (CountsFrom list weights size from (rank + 1)) (sym w.numbers-is)
            (CountsFrom-other list weights size from rank t c.loop-rank.numbers here other c.loop-rank.invariant.counted)
      ];
    }

pub returns : goal.returns
returns c =
    let list = c.args.list.now in
    let weights = c.args.binomials.now in
    let from = c.args.range.from in
    let some = c.args.range.rises in
    let ended = c.loop-rank.auto._rank-end in
    AreCounted-end list weights c.args.size from c.args.range.to c.loop-rank.numbers (omega arith)
    (subst (λ rank. CountsFrom list weights c.args.size from rank c.loop-rank.numbers) (omega (arith, ended (omega arith))) c.loop-rank.invariant.counted)
