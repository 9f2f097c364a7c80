use Rattle.std.proofs.Common.{◌≡◌, ap, subst, sym, ◌∙◌, map, List, ℕ}
use Rattle.std.specs.List.{insert}
use Rattle.tuple_order.specs.declared.ranks.Range.{Range}
use Rattle.cover_core.specs.Effects.{put_pair}
use Rattle.cover_core.proofs.Standing.{map-insert}
use Rattle.cover_core.proofs.inserting.add_range.Goals as goal

pub returns-in_ok-insert : goal.returns-in_ok-insert
returns-in_ok-insert c =
    let f : Range → ℕ × ℕ = λ range. (range.from, range.to) in
    let x = c.args.x in
    let ys = map f c.deref.result.now in
    let e : put_pair (f x) ys ≡ insert ys c.in-Err.place (f x) = subst (λ (q : ℕ × ℕ). put_pair q ys ≡ insert ys c.in-Err.place q) c.pair.ensures c.in-Err.ensures.1 in
    ap (map f) c.in_ok-insert.ensures.items ∙ map-insert f c.list.inside.items.items c.in-Err.place x ∙ ap (λ ys. insert (map f ys) c.in-Err.place (f x)) (sym c.deref.ensures.value) ∙ sym e ∙ ap (λ zs. put_pair (f x) (map f zs)) c.deref.ensures.value ∙ ap (put_pair (f x)) c.list.view_is
