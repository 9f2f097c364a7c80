use Rattle.std.proofs.Common.{[], ◌∷◌, ap, ◌∙◌, length, length-append, arith, List}
use Rattle.std.proofs.lemmas.List.{length-map}
use Rattle.gadget_model.specs.Circuit.{Variable}
use Rattle.gadget_tree.specs.Seen.{variable_of}
use Rattle.gadget_tree.specs.Variables.{names_of, is_among}
use Rattle.gadget_tree.proofs.NameOrder.{indexed-push}
use Rattle.gadget_tree.proofs.variables.Variables.with.Goals as goal

pub invariant_of-result : goal.invariant_of-result
invariant_of-result c =
    let vars = c.self.inside.vars in
    let numbers = c.self.inside.numbers in
    let longer = ap length c.in_ok-push.ensures.items ∙ length-append vars.items (c.args.var ∷ []) in
    let same = ap length c.self.view_is in (
      indexed-push vars.items c.deref.result.now c.push.new.self.items numbers.items c.deref-2.result.now c.insert.new.self.items c.args.var c.bytes.result.now c.len.result c.rank-place.result c.self.invariant.0
          (ap (λ (vs : List Variable). is_among (names_of vs) c.args.var.name) c.self.view_is ∙ c.requires.fresh)
          c.deref.ensures.value c.deref-2.ensures.value c.bytes.ensures c.rank-place.ensures (omega (arith, vars.ok.0, c.len.ensures)) c.in_ok-insert.ensures.items c.in_ok-push.ensures.items,
      omega (arith, longer, same, length-map vars.items variable_of, c.requires.room),
    )
