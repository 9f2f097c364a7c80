use Rattle.std.proofs.Common.{ℕ, ◌^◌, List, [], ◌∷◌, ◌++◌, ap, sym, ◌∙◌, arith}
use Rattle.std.proofs.lemmas.List.{take_more_set}
use Rattle.tuple_order.specs.Codes.{items_of_digits}
use Rattle.tuple_order.proofs.Digits.{read-more}
use Rattle.tuple_order.proofs.encoding.read_digits.Goals as goal

pub loop-place-preserved : goal.loop-place-preserved
loop-place-preserved c =
    let place = c.loop-place.place in
    let item = c.saturating_sub.result in
    take_more_set c.loop-place.items place item (omega arith)
    ∙ ap (λ (items : List ℕ). items ++ item ∷ []) c.loop-place.invariant
    ∙ ap (λ (n : ℕ). items_of_digits place (2 ^ 45) c.args.code ++ n ∷ []) c.saturating_sub.ensures
    ∙ sym (read-more c.args.code place (omega arith))
