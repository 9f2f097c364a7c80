-- The item that is read is the one that the number names.
use Rattle.std.proofs.Common.{◌≡◌, ℕ, List, ◌<◌, ◌++◌, IfOk, codes, get_or, length, subst, ap, ◌∙◌, sym}
use Rattle.std.specs.Prelude.{decimal}
use Rattle.wire_table.specs.declared.item.Item as code
use Rattle.report.proofs.FailLines.{name_at}
use Rattle.report.proofs.builder.item_words.Goals as goal

pub returns : goal.returns
returns c =
    let items = c.args.items.now in
    let number = c.args.number in
    let item = c.in-Some.item.now in
    let read = c.in-Some.ensures.lookup in
    let within : number < length items = subst (λ n. n < length items) c.from.ensures read.3.0 in
    let name =
    c.bytes.ensures
    ∙ ap (λ (a : code.Item). a.name) read.1
    ∙ ap (λ (n : ℕ). (get_or items n item).name) c.from.ensures
    ∙ sym (name_at items number item (codes "#" ++ decimal number) within) in
    subst (λ (n : List ℕ). IfOk c.name_words.result (λ words. words.items ≡ codes "tally item " ++ n)) name c.name_words.ensures
