use Rattle.tuple_order.proofs.Raising.{next_of_size-written, next_of_size-none}
use Rattle.tuple_order.proofs.steps.raise.Goals as goal

pub returns-in-Some-clause-raised : goal.returns-in-Some-clause-raised
returns-in-Some-clause-raised c = λ _.
    next_of_size-written c.args.high c.args.items.now c.number_from.new.places c.in-Some.place c.in-Some.ensures.found c.in-Some.ensures.last c.number_from.ensures

pub returns-in-None-clause-last : goal.returns-in-None-clause-last
returns-in-None-clause-last c = λ _. next_of_size-none c.args.high c.args.items.now c.in-None.ensures.none
