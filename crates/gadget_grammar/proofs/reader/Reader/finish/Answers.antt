use Rattle.std.proofs.Common.{List, Option, ap, arith, tests}
use Rattle.std.specs.Prelude.{ok_or}
use Rattle.gadget_text.specs.declared.file_error.FileError.TheVariants.{Syntax}
use Rattle.gadget_grammar.specs.Steps.{NamedStep}
use Rattle.gadget_grammar.specs.Seen.{steps_in}
use Rattle.std.proofs.lemmas.List.{nil_from_length}
use Rattle.gadget_grammar.proofs.Advances.{level_finished}
use Rattle.gadget_grammar.proofs.reader.Reader.finish.Goals as goal

pub returns-clause-steps : goal.returns-clause-steps
returns-clause-steps c = λ bytes.
    let finished = level_finished (steps_in bytes c.args.self.steps.items) (steps_in bytes c.end_level.new.steps.items) c.args.self.outer.items c.args.self.here c.args.self.has_unit
    (nil_from_length c.args.self.outer.items (grind (arith, tests, c.is_empty.ensures, c.if-not-is_empty.false))) c.if-not-has_unit.false (c.in_ok-end_level.ensures.steps bytes) in
    ap (λ (o : Option (List NamedStep)). ok_or o (Syntax c.args.line)) finished
