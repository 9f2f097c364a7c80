use Rattle.std.proofs.Common.{◌≡◌, ap, sym, ◌∙◌, map, List, ℕ}
use Rattle.std.specs.List.{remove}
use Rattle.tuple_order.specs.declared.ranks.Range.{Range}
use Rattle.cover_core.specs.Effects.{take_out}
use Rattle.cover_core.proofs.Standing.{map-remove}
use Rattle.cover_core.proofs.inserting.take_range.Goals as goal

pub returns-in-Some : goal.returns-in-Some
returns-in-Some c =
    let f : Range → ℕ × ℕ = λ range. (range.from, range.to) in
    ap (map f) c.remove.ensures.items ∙ map-remove f c.list.inside.items.items c.in-Some.place ∙ ap (λ ys. remove (map f ys) c.in-Some.place) (sym c.deref.ensures.value) ∙ sym c.in-Some.ensures.1 ∙ ap (λ zs. take_out c.args.x (map f zs)) c.deref.ensures.value ∙ ap (take_out c.args.x) c.list.view_is
