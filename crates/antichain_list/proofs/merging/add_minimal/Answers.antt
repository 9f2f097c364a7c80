use Rattle.std.proofs.Common.{◌≡◌, ℕ, List, [], take, ap, subst, sym, rules}
use Rattle.std.proofs.lemmas.Result.{on_ok_weaker}
use Rattle.antichain_list.specs.Held.{Gains}
use Rattle.antichain_list.proofs.Staying.{AreCodes-take, AreMarked-take, Gains-smaller, Gains-all}
use Rattle.antichain_list.proofs.merging.add_minimal.Goals as goal

pub returns-then-smaller-eq0 : goal.returns-then-smaller-eq0
returns-then-smaller-eq0 c =
    let old = c.args.codes.now.items in
    let list = c.args.list.now in
    let others = c.args.others.now in
    let place = c.smaller_count-smaller.result in
    let none : take place others ≡ [] = ap (λ (n : ℕ). take n others) c.if-smaller-eq0.true in
    let P : List ℕ → Type 0 = λ xs. Gains old list xs c.extend_from_slice.new.self.items in
    let all : Gains old list [] c.extend_from_slice.new.self.items = rw c.in_ok-extend_from_slice.ensures.items (Gains-all old list) in
    Gains-smaller old list others c.extend_from_slice.new.self.items place c.requires.list c.requires.others c.smaller_count-smaller.ensures.smaller (subst P (sym none) all)

pub add_uncovered-requires-clause-others : goal.add_uncovered-requires-clause-others
add_uncovered-requires-clause-others c = AreCodes-take c.args.others.now c.smaller_count-smaller.result c.requires.others

pub add_uncovered-requires-clause-marked : goal.add_uncovered-requires-clause-marked
add_uncovered-requires-clause-marked c = AreMarked-take c.args.others.now c.args.marks.now c.smaller_count-smaller.result c.requires.marked

pub returns : goal.returns
returns c =
    on_ok_weaker c.add_uncovered.result
    (Gains-smaller c.args.codes.now.items c.args.list.now c.args.others.now c.add_uncovered.new.codes.items c.smaller_count-smaller.result c.requires.list c.requires.others
    c.smaller_count-smaller.ensures.smaller) c.add_uncovered.ensures
