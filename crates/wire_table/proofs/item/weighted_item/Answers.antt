use Rattle.std.proofs.Common.{◌≡◌, ℕ, List, [], ◌∷◌, ◌++◌, ap, ◌∙◌, arith}
use Rattle.gadget_tree.specs.Variables.{name_at}
use Rattle.wire_table.proofs.ItemReads.{same_item, name_at-list}
use Rattle.wire_table.proofs.item.weighted_item.Goals as goal

pub returns : goal.returns
returns c =
    let g = c.args.gadget.now in
    let vars = c.in_ok-push.ensures.ok ∙ ap (λ (xs : List ℕ). xs ++ c.args.var ∷ []) c.new-vars.ensures.items in
    let name = name_at-list c.vars.result.now g.variables c.from.result c.index-vars-from.result c.in_ok-name.name c.vars.ensures.variables (omega arith) c.in_ok-name.ensures.cases in
    let e : c.from.result ≡ c.args.var = c.from.ensures in
    same_item record { name = c.in_ok-name.name; vars = c.push.new.self; kind = c.kind_of-kind.result; weight = c.args.weight } g c.args.var
    (name ∙ ap (name_at g.variables) e) vars c.kind_of-kind.ensures
