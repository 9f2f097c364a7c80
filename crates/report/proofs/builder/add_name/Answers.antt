-- The item that is read is the one that the number names.
use Rattle.std.proofs.Common.{ℕ, List, [], ◌∷◌, ◌++◌, get_or, ap, ◌∙◌, sym, append_assoc}
use Rattle.report.proofs.FailLines.{item_name_at}
use Rattle.report.proofs.builder.add_name.Goals as goal

pub returns : goal.returns
returns c =
    let old = c.args.bytes.now.items in
    let name = c.bytes.result.now in
    let item = c.index-items-from.result in
    let read = ap (λ (n : ℕ). (get_or c.args.items.now n item).name) c.from.ensures in
    c.in_ok-extend_from_slice.ensures.items
    ∙ ap (λ (bytes : List ℕ). bytes ++ name) c.in_ok-push.ensures.items
    ∙ append_assoc old (32 ∷ []) name
    ∙ ap (λ (word : List ℕ). old ++ 32 ∷ word)
    (c.bytes.ensures ∙ read ∙ sym (item_name_at c.args.items.now c.args.number item c.requires))
