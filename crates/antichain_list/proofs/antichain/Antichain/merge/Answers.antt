use Rattle.std.proofs.Common.{List, [], ℕ, map, subst, sym}
use Rattle.std.proofs.lemmas.List.Filters.{dedup_is}
use Rattle.tuple_order.specs.Codes.{tuple_of_code}
use Rattle.antichain_list.proofs.Joining.{AreJoined, AreJoined-sorted, AreMarked-joined, Joins-from_covers}
use Rattle.antichain_list.proofs.antichain.Antichain.merge.Goals as goal

pub add_minimal-requires-clause-marked : goal.add_minimal-requires-clause-marked
add_minimal-requires-clause-marked c = rw c.deref-2.ensures.value c.other.invariant.marked

pub add_minimal-requires-2-clause-marked : goal.add_minimal-requires-2-clause-marked
add_minimal-requires-2-clause-marked c = rw c.deref-4.ensures.value c.self.invariant.marked

joined : (c : goal.After-mark_all) → AreJoined c.self.inside.codes.items c.other.inside.codes.items c.dedup.new.self.items
joined c =
    let first = rw (c.in_ok-codes.ensures.items, c.deref.ensures.value, c.deref-2.ensures.value) at c.in_ok-add_minimal.ensures in
    let second = rw (c.deref-3.ensures.value, c.deref-4.ensures.value) at c.in_ok-add_minimal-2.ensures in
    AreJoined-sorted c.self.inside.codes.items c.other.inside.codes.items c.add_minimal.new.codes.items c.add_minimal-2.new.codes.items c.sort.new.self.items c.dedup.new.self.items
    c.self.invariant.held c.other.invariant.held first second c.in_ok-sort.ensures.permutation c.in_ok-sort.ensures.sorted (dedup_is _ _ _ c.dedup.ensures.filtered)

pub invariant_of-self : goal.invariant_of-self
invariant_of-self c = record {
  held = (joined c).held;
  marked = AreMarked-joined c.self.inside.codes.items c.other.inside.codes.items c.dedup.new.self.items c.self.inside.marks c.other.inside.marks c.mark_all.new.marks (joined c)
      c.self.invariant.held c.other.invariant.held c.self.invariant.marked c.other.invariant.marked c.mark_all.ensures;
}

pub returns-clause-joined : goal.returns-clause-joined
returns-clause-joined c =
    rw (← c.self.view_is, ← c.other.view_is)
    (Joins-from_covers (map tuple_of_code c.self.inside.codes.items) (map tuple_of_code c.other.inside.codes.items) (map tuple_of_code c.dedup.new.self.items)
    c.self.invariant.held.antichain c.other.invariant.held.antichain (joined c).held.antichain (joined c).covers)

pub returns-clause-covers : goal.returns-clause-covers
returns-clause-covers c = rw (← c.self.view_is, ← c.other.view_is) (joined c).covers

pub returns-clause-antichain : goal.returns-clause-antichain
returns-clause-antichain c = (joined c).held.antichain
