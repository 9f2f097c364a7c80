-- The statuses of refused words.
use Rattle.mask_words.specs.declared.answer.WordsError.{WordsError}
use Rattle.mask_words.specs.declared.answer.WordsError.TheVariants as words
use Rattle.report.specs.declared.status.Status.{Status}
use Rattle.report.specs.declared.status.Status.TheVariants as statuses

abbrev pub status_of_words : WordsError → Status
status_of_words (words.Usage kind) = statuses.Usage kind
status_of_words words.SizeNotUsed = statuses.SizeNotUsed
status_of_words words.OutOfMemory = statuses.OutOfMemory
