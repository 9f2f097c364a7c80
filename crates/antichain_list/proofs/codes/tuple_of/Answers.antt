use Rattle.std.proofs.Common.{◌≡◌, ◌∙◌, sym}
use Rattle.std.proofs.lemmas.Option.{MatchOption-at_some}
use Rattle.std.specs.Bool.{⊤}
use Rattle.tuple_model.specs.Limits.{most_items, most_size}
use Rattle.tuple_model.specs.Tuples.{IsTuple}
use Rattle.tuple_order.specs.Codes.{code_of, tuple_of_code}
use Rattle.tuple_order.proofs.Codes.{code_of-unique}
use Rattle.antichain_list.proofs.codes.tuple_of.Goals as goal

pub returns : goal.returns
returns c =
    let t = c.unwrap.result in
    let e = MatchOption-at_some ⊤ (λ t. code_of t ≡ c.args.code) t c.unwrap.ensures c.of_code.ensures.code in
    let f = MatchOption-at_some ⊤ (IsTuple most_items most_size) t c.unwrap.ensures c.of_code.ensures.tuple in
    code_of-unique t (tuple_of_code c.args.code) f c.requires.tuple (e ∙ sym c.requires.same)
