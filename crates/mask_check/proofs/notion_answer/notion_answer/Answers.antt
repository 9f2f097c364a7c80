use Rattle.std.proofs.Common.{◌≡◌, ℕ, List, length, map, rules, subst, sym}
use Rattle.tuple_model.specs.Minimal.{IsAnswer}
use Rattle.notions.specs.Questions.{FailsFor, items_asked}
use Rattle.wire_table.specs.CodeItems.{item_of}
use Rattle.mask_check.proofs.Asking.{IsNotionAnswer-from}
use Rattle.mask_check.proofs.notion_answer.notion_answer.Goals as goal

pub verdict-requires-clause-answer : goal.verdict-requires-clause-answer
verdict-requires-clause-answer g c =
    let s = c.args.settings.now in
    let circuit = c.args.gadget.now in
    let q = c.in_ok-query.query in
    let P : List (List ℕ) → Type 0 = λ failing. IsAnswer (FailsFor q) (length (items_asked q)) q.t failing in
    let made : q ≡ record { notion = c.args.notion; gadget = circuit; table = c.args.table.now; t = s.t } = search rules in
    IsNotionAnswer-from s circuit c.args.table.now c.args.notion c.requires.asked (c.requires.settings.notion_size c.args.notion c.requires.asked) q made
    (map item_of c.list.result.now) c.items.result c.size.result c.count-tuples.result c.live.result.now
    c.list.ensures c.items.ensures.items c.size.ensures.size c.count-tuples.ensures (subst P (sym c.live.ensures) c.in_ok-found.ensures.answer)
