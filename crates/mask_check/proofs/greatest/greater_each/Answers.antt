use Rattle.std.specs.Slice.Iter.{iter_rest}
use Rattle.std.specs.Iterator.Adapters.{zip_first, zip_second}
use Rattle.std.proofs.lemmas.Slice.Zip.{either_empty_from_Zip}
use Rattle.mask_check.specs.Report.{greater_each}
use Rattle.mask_check.proofs.GreatestNumbers.{greater_each-done}
use Rattle.mask_check.proofs.greatest.greater_each.Goals as goal

pub returns : goal.returns
returns c =
    let items = c.loop-left.left-iterator in
    greater_each-done c.loop-left.greater.items (iter_rest (zip_first items)) (iter_rest (zip_second items)) (greater_each c.args.a.now c.args.b.now)
    (either_empty_from_Zip items c.next.new.self c.next.result c.in-None.is c.next.ensures.steps) c.loop-left.invariant
