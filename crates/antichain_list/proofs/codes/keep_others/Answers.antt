use Rattle.std.proofs.Common.{get_or, arith, subst, sym}
use Rattle.tuple_model.specs.Tuples.{IsSubset}
use Rattle.antichain_list.specs.Held.{IsCode, IsNoSuperset}
use Rattle.antichain_list.proofs.InPlace.{PicksInPlace-kept, PicksInPlace-skipped, All-in_place}
use Rattle.antichain_list.proofs.codes.keep_others.Goals as goal
use Rattle.antichain_list.proofs.codes.keep_others.Goals.{then-not-is_subset, else-not-is_subset}

pub tuple_of-requires : goal.tuple_of-requires
tuple_of-requires c = All-in_place (IsNoSuperset c.args.t.now) IsCode c.args.codes.now c.loop-place.codes c.loop-place.kept c.loop-place.place 0 c.loop-place.invariant
    (omega arith) c.requires

pub loop-place-preserved : goal.loop-place-preserved
loop-place-preserved c =
    let t = c.args.t.now in
    let P = IsNoSuperset t in
    let xs = c.args.codes.now in
    let l = c.loop-place in
    let code = get_or l.codes l.place 0 in
    elim c.if-not-is_subset.branch [
      | then-not-is_subset w ↦
          let other : P code = λ has. let e = c.is_subset.ensures.1 (subst (IsSubset t) (sym c.tuple_of.ensures) has) in let f = w.if-not-is_subset.true in cc in
          let r = PicksInPlace-kept P xs l.codes l.kept l.place 0 l.invariant (omega arith) other in
          rw (w.codes-is, w.kept-is) r
      | else-not-is_subset w ↦
          let has : IsSubset t c.tuple_of.result = c.is_subset.ensures.0 w.if-not-is_subset.false in
          let r = PicksInPlace-skipped P xs l.codes l.kept l.place 0 l.invariant (omega arith) (λ n. n (subst (IsSubset t) c.tuple_of.ensures has)) in
          rw (w.codes-is, w.kept-is) r
    ]
