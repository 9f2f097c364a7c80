use Rattle.std.proofs.Common.{IsTrue, Bool, true, refl, nat_eq, ℕ, ◌↔◌, subst, ap, sym}
use Rattle.antichain_list.specs.Held.{NoneWithin}
use Rattle.antichain_list.proofs.Staying.{NoneWithin-small, NoneWithin-first, NoneWithin-uncovered}
use Rattle.antichain_list.proofs.merging.has_none_within.Goals as goal

pub returns-then-size_in : goal.returns-then-size_in
returns-then-size_in c =
    let l = rw (c.size_in.ensures, c.size_in-2.ensures) at c.if-size_in.true in
    (λ e. NoneWithin-small c.args.list.now c.args.code c.requires.list c.requires.code l, λ none. refl)

pub returns-in-Some : goal.returns-in-Some
returns-in-Some c =
    rw c.code.ensures.code (NoneWithin-first c.args.list.now c.args.code c.in-Some.s c.requires.list c.requires.code (rw c.tuple_of.ensures at c.in-Some.ensures.first))

pub returns-in-None : goal.returns-in-None
returns-in-None c =
    (λ e. NoneWithin-uncovered c.args.list.now c.args.code (rw c.tuple_of.ensures at c.in-None.ensures.none), λ none. refl)
