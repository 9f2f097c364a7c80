use Rattle.std.proofs.Common.{◌≡◌, ◌<◌, ◌≤◌, ◌-◌, length, arith, ap, sym, ◌∙◌, map, List, ℕ}
use Rattle.std.proofs.lemmas.List.{length-map}
use Rattle.tuple_order.specs.declared.ranks.Range.{Range}
use Rattle.cover_core.proofs.Standing.{ranges-more}
use Rattle.cover_core.proofs.inserting.add_ranges.Goals as goal

pub loop-place-preserved : goal.loop-place-preserved
loop-place-preserved c =
    let f : Range → ℕ × ℕ = λ range. (range.from, range.to) in
    let xs = c.other.inside.items.items in
    ranges-more f xs c.args.other.now c.loop-place.list _ c.args.list.now c.loop-place.place c.index.result.now c.loop-place-test.true (omega (arith, c.other.inside.items.ok.0, c.len-place.ensures, c.loop-place.auto.place)) c.index.ensures c.other.view_is c.in_ok-add_range.ensures c.loop-place.invariant
