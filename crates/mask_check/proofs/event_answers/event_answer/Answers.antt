use Rattle.std.proofs.Common.{◌≡◌, ℕ, List, map, ap, sym, subst}
use Rattle.wire_table.specs.Items.{Item}
use Rattle.wire_table.specs.CodeItems.{item_of}
use Rattle.tuple_model.specs.Antichains.{Covers}
use Rattle.wire_counts.specs.Coefficients.{AreCoefficients, weights_of}
use Rattle.rp_events.specs.Questions.{EventQuestion, leaking_items, event_of}
use Rattle.mask_check.specs.Questions.{QuestionAnswer}
use Rattle.mask_check.proofs.Asking.{IsAnswerTo-event}
use Rattle.mask_check.proofs.EventLines.{small_weights}
use Rattle.mask_check.proofs.event_answers.event_answer.Goals as goal

pub coefficients-requires-clause-weights_at_most : goal.coefficients-requires-clause-weights_at_most
coefficients-requires-clause-weights_at_most g c =
    λ lifetimes bounds. small_weights (map item_of c.list.result.now) c.list.ensures.weights

pub returns : goal.returns
returns g c =
    let s = c.args.settings.now in
    let q = c.in_ok-query.query in
    let leaking = c.requires.leaking in
    let answer : QuestionAnswer = record { failing = c.in_ok-found.found.live; coefficients = c.in_ok-coefficients.coefficients.items } in
    let P : List Item → ℕ → Type 0 = λ of size. AreCoefficients (Covers answer.failing) (weights_of of) size answer.coefficients in
    let R : List (List ℕ) → Type 0 = λ failing. AreCoefficients (Covers failing) (weights_of (map item_of c.list.result.now)) s.size answer.coefficients in
    let sized : q.size ≡ s.size = ap (λ (p : EventQuestion). p.size) c.in_ok-query.ensures in
    IsAnswerTo-event s c.args.gadget.now c.args.table.now (event_of c.args.event.now) leaking.0 leaking.1 q c.in_ok-query.ensures answer
    c.in_ok-found.ensures.answer
    (subst (P (leaking_items q)) (sym sized) (subst (λ (of : List Item). P of s.size) c.list.ensures.items (subst R c.live.ensures c.in_ok-coefficients.ensures)))
