use Rattle.std.proofs.Common.{ℕ, List, sym, subst}
use Rattle.tuple_model.specs.Antichains.{Covers}
use Rattle.antichain_list.proofs.Coded.{IsNonDecreasing-from_codes}
use Rattle.antichain_list.proofs.Adding.{IsPlace, AddsCode, AddsCode-inserted}
use Rattle.antichain_list.proofs.Marking.{AreMarked-added}
use Rattle.antichain_list.proofs.antichain.Antichain.insert.Goals as goal

pub place_of-place-requires : goal.place_of-place-requires
place_of-place-requires c = rw c.deref.ensures.value (IsNonDecreasing-from_codes c.self.inside.codes.items c.self.invariant.held)

added_codes : (c : goal.After-drop_supersets) → AddsCode c.self.inside.codes.items c.args.t c.drop_supersets.new.codes.items
added_codes c =
    let codes = c.self.inside.codes.items in
    let p = rw c.deref.ensures.value at c.place_of-place.ensures in
    let place : IsPlace codes c.code-code.result c.place_of-place.result = record { within = p.within; lower = p.lower; others = p.others } in
    let P : List (List ℕ) → Type 0 = λ list. Covers list c.args.t → ⊥ in
    AddsCode-inserted codes c.args.t c.code-code.result c.place_of-place.result c.insert.new.self.items c.drop_supersets.new.codes.items c.self.invariant.held c.code-code.ensures.tuple
    (subst P (sym c.self.view_is) c.requires) c.code-code.ensures.code place c.in_ok-insert.ensures.items c.drop_supersets.ensures

pub invariant_of-self-2 : goal.invariant_of-self-2
invariant_of-self-2 c =
    let added = added_codes c in record {
      held = added.held;
      marked = AreMarked-added c.self.inside.codes.items c.args.t c.drop_supersets.new.codes.items c.self.inside.marks c.mark.new.marks added.added c.self.invariant.marked c.mark.ensures;
    }

pub returns-clause-added : goal.returns-clause-added
returns-clause-added c = rw (← c.self.view_is) (added_codes c).added

pub returns-clause-antichain : goal.returns-clause-antichain
returns-clause-antichain c = (added_codes c).held.antichain
