use Rattle.std.proofs.Common.{[], get_or, Some, ap, sym, ◌∙◌, subst}
use Rattle.std.proofs.lemmas.Option.{slice_get-get_or}
use Rattle.tuple_order.specs.Codes.{tuple_of_code}
use Rattle.tuple_order.proofs.Codes.{tuple_of_code-code_of}
use Rattle.antichain_list.specs.Held.{IsCode}
use Rattle.antichain_list.proofs.Coded.{IsCode-code_of, get_or-codes}
use Rattle.antichain_list.proofs.antichain.Antichain.tuple.Goals as goal

pub tuple_of-requires : goal.tuple_of-requires
tuple_of-requires c =
    let list = c.args.self.now in
    let place = c.args.place in
    subst IsCode (sym (get_or-codes list c.tuples.result.now place c.tuples.ensures.codes c.requires)) (IsCode-code_of (get_or list place []) (c.tuples.ensures.antichain.tuples place [] c.requires))

pub returns : goal.returns
returns c =
    let list = c.args.self.now in
    let place = c.args.place in
    slice_get-get_or list place [] c.requires
    ∙ ap Some (sym (c.tuple_of.ensures ∙ ap tuple_of_code (get_or-codes list c.tuples.result.now place c.tuples.ensures.codes c.requires)
    ∙ tuple_of_code-code_of (get_or list place []) (c.tuples.ensures.antichain.tuples place [] c.requires)))
