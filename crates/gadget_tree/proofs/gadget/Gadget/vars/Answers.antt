use Rattle.std.proofs.Common.{ap, subst, ◌∙◌}
use Rattle.gadget_model.specs.Circuit.{Circuit}
use Rattle.gadget_tree.specs.Gadgets.{IsGadget}
use Rattle.gadget_tree.specs.Seen.{variables_of}
use Rattle.gadget_tree.proofs.ShareIndices.{shares_of_gadget}
use Rattle.gadget_tree.proofs.gadget.Gadget.vars.Goals as goal

pub returns-clause-shares : goal.returns-clause-shares
returns-clause-shares c =
    shares_of_gadget c.args.self.now c.deref.result.now (subst IsGadget c.self.view_is c.self.invariant) (ap variables_of c.deref.ensures.value ∙ ap (λ (g : Circuit). g.variables) c.self.view_is)
