-- What the caller of the program sees of a status: a line of text, which begins with the program's name, and an exit
-- status.
use Rattle.std.specs.Prelude.{ℕ, List, [], ◌++◌, codes, decimal}
use Rattle.gadget_text.specs.declared.token.Header.{Header}
use Rattle.gadget_text.specs.declared.token.Header.TheVariants as header
use Rattle.gadget_text.specs.declared.file_error.FileError.{FileError}
use Rattle.gadget_text.specs.declared.file_error.FileError.TheVariants as file_error
use Rattle.gadget_text.specs.declared.file_error.What.{What}
use Rattle.gadget_text.specs.declared.file_error.What.TheVariants as what
use Rattle.wire_table.specs.declared.wire_error.WireError.{WireError}
use Rattle.wire_table.specs.declared.wire_error.WireError.TheVariants as wire_error
use Rattle.mask_terms.specs.Options.{option_word}
use Rattle.mask_terms.specs.declared.usage_kind.UsageKind.{UsageKind}
use Rattle.mask_terms.specs.declared.usage_kind.UsageKind.TheVariants.{Words, Task, Argument, Value}
use Rattle.report.specs.declared.status.NotFor.{NotFor}
use Rattle.report.specs.declared.status.NotFor.TheVariants.{SeveralOutputs, ManyInputs, OrderTooLarge, ManyEvents}
use Rattle.report.specs.declared.status.Status.{Status}
use Rattle.report.specs.declared.status.Status.TheVariants.{Yes, No, Listed, Usage, SizeNotUsed, File, Wires, TooLong}
use Rattle.report.specs.declared.status.Status.TheVariants.{NotForGadget, Budget, ReadFault, WriteFault, OutOfMemory}
use Rattle.report.specs.declared.texts.StatusRow.{StatusRow}

-- a row of the table: an exit status and a text, which has no line feed
abbrev pub row : ℕ → List ℕ → StatusRow
row exit text = record { exit = exit; text = text }

-- a refusal that speaks of a line of the file
abbrev pub line_row : ℕ → List ℕ → StatusRow
line_row line offence = row 3 (codes "mask: line " ++ decimal line ++ codes ": " ++ offence)

-- the same wherever memory ran out
abbrev pub memory_row : StatusRow
memory_row = row 8 (codes "mask: out of memory")

-- what is wrong with the command line
abbrev pub usage_text : UsageKind → List ℕ
usage_text Words = codes "mask: usage: mask TASK ARG [options]"
usage_text Task = codes "mask: unknown task"
usage_text Argument = codes "mask: bad argument"
usage_text (Value option) = codes "mask: bad value of " ++ option_word option

-- a header, as a file writes it
abbrev pub header_text : Header → List ℕ
header_text header.Profile = codes "#PROFILE"
header_text header.Shares = codes "#SHARES"
header_text header.In = codes "#IN"
header_text header.Randoms = codes "#RANDOMS"
header_text header.Out = codes "#OUT"

-- what there is too much of
abbrev pub what_text : What → List ℕ
what_text what.Shares = codes "shares"
what_text what.Inputs = codes "inputs"
what_text what.Outputs = codes "outputs"
what_text what.Randoms = codes "randoms"
what_text what.Nesting = codes "parentheses"
what_text what.Variables = codes "variables"

-- why the file is refused
abbrev pub file_row : FileError → StatusRow
file_row (file_error.NotText line) = line_row line (codes "not text")
file_row (file_error.Syntax line) = line_row line (codes "syntax")
file_row (file_error.HeaderTwice line) = line_row line (codes "header twice")
file_row (file_error.HeaderMissing missing) = row 3 (codes "mask: no " ++ header_text missing ++ codes " line")
file_row (file_error.BadNumber line) = line_row line (codes "bad number")
file_row (file_error.BadName line) = line_row line (codes "bad name")
file_row (file_error.NameTwice line) = line_row line (codes "name twice")
file_row (file_error.Unknown line) = line_row line (codes "unknown name")
file_row (file_error.OutputMissing output index) = row 3
    (codes "mask: output " ++ decimal output ++ codes " share " ++ decimal index ++ codes " is not assigned")
file_row (file_error.TooMany things) = row 3 (codes "mask: too many " ++ what_text things)
file_row file_error.OutOfMemory = memory_row

-- why the gadget is refused, with the line of its first variable outside the class
abbrev pub wires_row : WireError → StatusRow
wires_row (wire_error.TooWide var line) = line_row line (codes "too many monomials")
wires_row (wire_error.RandomProduct var line) = line_row line (codes "random in a product")
wires_row (wire_error.Degree var line) = line_row line (codes "degree above 2")
wires_row wire_error.OutOfMemory = memory_row

-- why the gadget doesn't suit the task
abbrev pub not_for_text : NotFor → List ℕ
not_for_text SeveralOutputs = codes "mask: sni needs one output"
not_for_text ManyInputs = codes "mask: rpe needs at most two inputs"
not_for_text OrderTooLarge = codes "mask: order too large"
not_for_text (ManyEvents count) = codes "mask: too many events: " ++ decimal count

-- The table of the statuses. The text says why there is no report, and is empty where there is one.
abbrev pub row_of : Status → StatusRow
row_of Yes = row 0 []
row_of No = row 1 []
row_of Listed = row 0 []
row_of (Usage kind) = row 2 (usage_text kind)
row_of SizeNotUsed = row 2 (codes "mask: --size and --wires are for rpc and rpe")
row_of (File error) = file_row error
row_of (Wires error) = wires_row error
row_of TooLong = row 3 (codes "mask: file too long")
row_of (NotForGadget why) = row 4 (not_for_text why)
row_of (Budget count) = row 5 (codes "mask: over budget: " ++ decimal count)
row_of ReadFault = row 6 (codes "mask: read failed")
row_of WriteFault = row 7 (codes "mask: write failed")
row_of OutOfMemory = memory_row
