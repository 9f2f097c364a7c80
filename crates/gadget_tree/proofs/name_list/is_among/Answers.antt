use Rattle.std.proofs.Common.{refl, sym, ◌∙◌}
use Rattle.gadget_tree.proofs.Names.{among_here, among_behind}
use Rattle.gadget_tree.proofs.name_list.is_among.Goals as goal

pub returns-then-is : goal.returns-then-is
returns-then-is c =
    sym (among_here c.args.names.now c.loop-name.name-index c.args.word.now c.name-item.result c.loop-name-test.true (sym c.name-item.is ∙ c.if-is.ensures.0 refl))
    ∙ c.loop-name.invariant

pub loop-name-preserved : goal.loop-name-preserved
loop-name-preserved c =
    among_behind c.args.names.now c.loop-name.name-index c.args.word.now c.name-item.result c.loop-name-test.true (λ e. let same = c.if-is.ensures.1 (c.name-item.is ∙ e) in absurd cc)
    ∙ c.loop-name.invariant
