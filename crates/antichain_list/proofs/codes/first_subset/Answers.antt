use Rattle.antichain_list.proofs.Marking.{first-part, none-part}
use Rattle.antichain_list.proofs.codes.first_subset.Goals as goal

pub returns-then-is_small-clause-first : goal.returns-then-is_small-clause-first
returns-then-is_small-clause-first c =
    first-part c.args.list.now c.args.marks.now c.args.t.now c.marked_part-part.result c.requires.marked c.marked_part-part.ensures.subset c.marked_part-part.ensures.marked
    c.itself.result c.itself.ensures.first

pub returns-then-is_small-clause-none : goal.returns-then-is_small-clause-none
returns-then-is_small-clause-none c =
    none-part c.args.list.now c.args.marks.now c.args.t.now c.marked_part-part.result c.requires.marked c.marked_part-part.ensures.subset c.marked_part-part.ensures.marked
    c.itself.result c.itself.ensures.none

pub returns-else-is_small-clause-first : goal.returns-else-is_small-clause-first
returns-else-is_small-clause-first c =
    first-part c.args.list.now c.args.marks.now c.args.t.now c.marked_part-part.result c.requires.marked c.marked_part-part.ensures.subset c.marked_part-part.ensures.marked
    c.first_of_subsets.result c.first_of_subsets.ensures.first

pub returns-else-is_small-clause-none : goal.returns-else-is_small-clause-none
returns-else-is_small-clause-none c =
    none-part c.args.list.now c.args.marks.now c.args.t.now c.marked_part-part.result c.requires.marked c.marked_part-part.ensures.subset c.marked_part-part.ensures.marked
    c.first_of_subsets.result c.first_of_subsets.ensures.none
