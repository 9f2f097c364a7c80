-- The statuses of the errors of the layers below. Want of memory is one status, wherever it came from.
use Rattle.mask_bytes.specs.declared.error.ReadError.{ReadError}
use Rattle.mask_bytes.specs.declared.error.ReadError.TheVariants as reads
use Rattle.gadget_text.specs.declared.file_error.FileError.{FileError}
use Rattle.gadget_text.specs.declared.file_error.FileError.TheVariants as files
use Rattle.wire_table.specs.declared.wire_error.WireError.{WireError}
use Rattle.wire_table.specs.declared.wire_error.WireError.TheVariants as wires
use Rattle.report.specs.declared.status.Status.{Status}
use Rattle.report.specs.declared.status.Status.TheVariants as statuses

abbrev pub status_of_read : ReadError → Status
status_of_read reads.ReadFault = statuses.ReadFault
status_of_read reads.TooLong = statuses.TooLong
status_of_read reads.OutOfMemory = statuses.OutOfMemory

abbrev pub status_of_file : FileError → Status
status_of_file files.OutOfMemory = statuses.OutOfMemory
status_of_file error = statuses.File error

abbrev pub status_of_wires : WireError → Status
status_of_wires (wires.TooWide var line) = statuses.Wires (wires.TooWide var line)
status_of_wires (wires.RandomProduct var line) = statuses.Wires (wires.RandomProduct var line)
status_of_wires (wires.Degree var line) = statuses.Wires (wires.Degree var line)
status_of_wires wires.OutOfMemory = statuses.OutOfMemory
