use Rattle.antichain_list.proofs.Coded.{IsNonDecreasing-from_codes}
use Rattle.antichain_list.proofs.Lookup.{first-itself, none-itself}
use Rattle.antichain_list.proofs.codes.itself.Goals as goal

pub has-requires : goal.has-requires
has-requires c = IsNonDecreasing-from_codes c.args.list.now c.requires.codes

pub returns-clause-first : goal.returns-clause-first
returns-clause-first c =
    let there = rw c.code.ensures.code at c.has.ensures in
    rw c.then_some.ensures (first-itself c.args.list.now c.args.t.now c.requires.codes c.code.ensures.tuple c.has.result there)

pub returns-clause-none : goal.returns-clause-none
returns-clause-none c =
    let there = rw c.code.ensures.code at c.has.ensures in
    rw c.then_some.ensures (none-itself c.args.list.now c.args.t.now c.requires.codes c.code.ensures.tuple 0 c.requires.small c.has.result there)
