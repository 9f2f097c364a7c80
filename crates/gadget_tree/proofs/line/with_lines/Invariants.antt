use Rattle.std.proofs.Common.{List, length}
use Rattle.std.specs.Prelude.{All, Result}
use Rattle.gadget_model.specs.Circuit.{Variable}
use Rattle.gadget_text.specs.Places.{LiesWithin, lines_in}
use Rattle.gadget_text.specs.declared.file_error.FileError.{FileError}
use Rattle.gadget_tree.specs.File.{LinesSay}
use Rattle.gadget_tree.proofs.line.with_lines.Given as goal

abbrev pub invariant-loop-line : goal.invariant-loop-line
invariant-loop-line l = record {
  within : All (LiesWithin (length l.bytes)) l.rest;
  says : (r : Result (List Variable) FileError) → LinesSay l.now (lines_in l.bytes l.rest) r → LinesSay l.fn.variables (lines_in l.bytes l.tokens) r;
}

abbrev pub decreases-loop-line : goal.decreases-loop-line
decreases-loop-line l = length l.rest
