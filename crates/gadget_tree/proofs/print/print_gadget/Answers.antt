-- The parts that are printed are those of the canonical text.
use Rattle.std.proofs.Common.{List, ℕ, Ok, sym, subst}
use Rattle.gadget_tree.specs.Seen.{variables_of}
use Rattle.gadget_tree.specs.File.{FileSays}
use Rattle.gadget_tree.proofs.Canonical.{canonical_reads}
use Rattle.gadget_tree.proofs.Printing.{printed_parts}
use Rattle.gadget_tree.proofs.print.print_gadget.Goals as goal

pub returns-clause-text : goal.returns-clause-text
returns-clause-text c =
    printed_parts c.args.gadget.now c.shares.result c.inputs.result.now c.outputs.result.now (variables_of c.vars-vars.result.now)
    c.in_ok-text.text.items c.add_header.new.text.items c.add_randoms.new.text.items c.add_header-2.new.text.items c.add_operations.new.text.items
    c.shares.ensures.shares c.inputs.ensures.inputs c.outputs.ensures.outputs c.vars-vars.ensures.variables
    c.in_ok-text.ensures c.in_ok-add_header.ensures c.in_ok-add_randoms.ensures c.in_ok-add_header-2.ensures c.in_ok-add_operations.ensures

pub returns-clause-reads_again : goal.returns-clause-reads_again
returns-clause-reads_again c =
    let again = canonical_reads c.args.gadget.now c.vars-vars.ensures.gadget in
    (again.0, subst (λ (text : List ℕ). FileSays text (Ok again.0)) (sym (returns-clause-text c)) again.1, again.2)
