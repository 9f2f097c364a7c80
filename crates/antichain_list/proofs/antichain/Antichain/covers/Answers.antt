use Rattle.antichain_list.proofs.antichain.Antichain.covers.Goals as goal

pub first_subset-requires-clause-marked : goal.first_subset-requires-clause-marked
first_subset-requires-clause-marked c = rw c.deref-2.ensures.value c.self.invariant.marked
