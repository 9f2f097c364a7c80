use Rattle.std.proofs.Common.{◌++◌, List, ap, sym, ◌∙◌}
use Rattle.gadget_tree.specs.declared.var.Var.{Var}
use Rattle.gadget_tree.specs.Seen.{variable_of, variables_of}
use Rattle.gadget_tree.proofs.NamedVariables.{fresh_next}
use Rattle.gadget_tree.proofs.start.indexed.Goals as goal

pub with-requires-clause-fresh : goal.with-requires-clause-fresh
with-requires-clause-fresh c =
    fresh_next (variables_of c.args.vars.items) c.loop-var.variables (variables_of c.next.new.self.rest.items) (variable_of c.in-Some.var)
    (ap (λ (vars : List Var). c.loop-var.variables ++ variables_of vars) (sym c.in-Some.ensures.steps.0) ∙ c.loop-var.invariant) c.requires.distinct
