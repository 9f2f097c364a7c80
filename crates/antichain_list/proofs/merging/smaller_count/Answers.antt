use Rattle.std.proofs.Common.{◌<◌, ◌≤◌, ◌≡◌, ℕ, List, length, arith}
use Rattle.std.proofs.lemmas.Bool.{cases_lt}
use Rattle.antichain_list.proofs.Coded.{IsNonDecreasing-from_codes}
use Rattle.antichain_list.proofs.Staying.{smaller_first}
use Rattle.antichain_list.proofs.merging.smaller_count.Goals as goal

pub place_of-requires : goal.place_of-requires
place_of-requires c = IsNonDecreasing-from_codes c.args.list.now c.requires.list

pub returns-clause-smaller : goal.returns-clause-smaller
returns-clause-smaller c =
    smaller_first c.args.list.now c.args.other.now c.place_of.result c.requires.list c.requires.other (rw (c.lowest_code.ensures, c.size_in.ensures) at c.place_of.ensures.others)
