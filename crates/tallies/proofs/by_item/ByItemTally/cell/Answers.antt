use Rattle.std.proofs.Common.{rules, ℕ, List, ap, ◌∙◌}
use Rattle.std.specs.List.{slice_get}
use Rattle.tallies.specs.declared.tally.TallyKind.TheVariants.{Item}
use Rattle.tallies.specs.Counting.{cells}
use Rattle.tallies.proofs.Cells.{cell_past, cell_read}
use Rattle.tallies.proofs.by_item.ByItemTally.cell.Goals as goal

pub returns-in_err-count : goal.returns-in_err-count
returns-in_err-count c = search (rules, cell_past)

pub returns-clause-at : goal.returns-clause-at
returns-clause-at c =
    let read = c.in_ok-count.ensures.lookup in
    cell_read Item c.deref.result.now c.args.k c.in_ok-count.field-0.now read.3.0 read.1
    ∙ ap (λ (counts : List ℕ). slice_get (cells Item counts) c.args.k) c.deref.ensures.value
