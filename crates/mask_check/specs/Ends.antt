-- How a check ends: what each status says of the words, of what was read and written, and of the tallies.
use Rattle.std.specs.Prelude.{◌≡◌, ◌≢◌, ℕ, ◌+◌, ◌<◌, ◌≤◌, ◌⊎◌, List, length, drop, Option, Some, None, IfSome, Result, Ok, Err}
use Rattle.std.specs.List.{AllZip}
use Rattle.std.specs.Io.KnownBytes.{IsAtEnd, append_known}
use Rattle.mask_bytes.specs.Counts.{Rose}
use Rattle.mask_bytes.specs.Flow.{IsLonger, LosesCount, LosesAtMost, AppendsProperPrefix}
use Rattle.gadget_model.specs.Circuit.{Circuit}
use Rattle.gadget_model.specs.Classes.{IsInClass}
use Rattle.gadget_text.specs.Limits.{most_file_bytes}
use Rattle.gadget_text.specs.declared.file_error.FileError.{FileError}
use Rattle.gadget_text.specs.declared.file_error.FileError.TheVariants as files
use Rattle.gadget_tree.specs.File.{FileSays}
use Rattle.wire_table.specs.Refusals.{Refuses}
use Rattle.wire_table.specs.declared.wire_error.WireError.{WireError}
use Rattle.wire_table.specs.declared.wire_error.WireError.TheVariants as wires
use Rattle.mask_words.specs.Settings.{settings_of}
use Rattle.mask_words.specs.declared.answer.Settings.{Settings}
use Rattle.mask_words.specs.declared.answer.WordsError.{WordsError}
use Rattle.mask_words.specs.declared.answer.WordsError.TheVariants as refused
use Rattle.report.specs.declared.status.Status.{Status}
use Rattle.report.specs.declared.status.Status.TheVariants.{Yes, No, Listed, Usage, SizeNotUsed, File, Wires, TooLong, NotForGadget, Budget, ReadFault, WriteFault, OutOfMemory}
use Rattle.mask_check.specs.Demonstrations.{check_of, made_file}
use Rattle.mask_check.specs.Questions.{asked_by, questions, IsUnsuited, IsSuited, work, QuestionAnswer, IsAnswerTo, NoneFails}
use Rattle.mask_check.specs.Report.{report, ending}
use Rattle.mask_check.specs.Tallying.{Tallying, tallying_of, AreFed, AreKept}
use Rattle.tallies.specs.Counting.{TallyState}

-- What the words of a command line ask for, the program's name skipped: settings, or the first thing that is wrong.
abbrev pub words_ask : List (List ℕ) → Result Settings WordsError
words_ask words = settings_of (drop 1 words)

-- a source before and after a call, with what its kind tells of it
pub record Reading (S : Type 0) : Type 0 where
  pub left : S → Option (List ℕ)
  pub faults : S → ℕ
  pub before : S
  pub after : S

-- a sink before and after a call, with what its kind tells of it
pub record Writing (K : Type 0) : Type 0 where
  pub written : K → Option (List ℕ)
  pub faults : K → ℕ
  pub before : K
  pub after : K

-- what a call reads, writes and counts
pub record Run (S K : Type 0) : Type 0 where
  pub reading : Reading S
  pub writing : Writing K
  pub tallies : Tallying

abbrev pub reading_of : {S : Type 0} → (S → Option (List ℕ)) → (S → ℕ) → S → S → Reading S
reading_of left faults before after = record { left = left; faults = faults; before = before; after = after }

-- The run of a call with these kinds of source, sink and tally, from what it is given to what it leaves.
abbrev pub run_of : {S K T : Type 0} → (S → Option (List ℕ)) → (S → ℕ) → (K → Option (List ℕ)) → (K → ℕ) →
    (T → TallyState) → S → S → K → K → List T → List T → Run S K
run_of left read_faults written write_faults seen source source_after sink sink_after tallies tallies_after = record {
  reading = reading_of left read_faults source source_after;
  writing = record { written = written; faults = write_faults; before = sink; after = sink_after };
  tallies = tallying_of seen tallies tallies_after;
}

-- The words ask for a check with these settings, and the bytes are the file of this gadget, which is in the verifier's
-- class.
pub record IsAccepted (words : List (List ℕ)) (bytes : List ℕ) (s : Settings) (gadget : Circuit) : Type 0 where
  pub asked : words_ask words ≡ Ok s
  pub file : FileSays bytes (Ok gadget)
  pub in_class : IsInClass gadget

-- The gadget suits the check, and the work is within the budget.
pub record IsFeasible (s : Settings) (gadget : Circuit) : Type 0 where
  pub suited : IsSuited s gadget
  pub within : work s gadget ≤ s.budget

-- The gadget suits the check, and the work is this count, which is over the budget.
pub record IsOverBudget (s : Settings) (gadget : Circuit) (count : ℕ) : Type 0 where
  pub suited : IsSuited s gadget
  pub counted : count ≡ work s gadget
  pub over : s.budget < count

-- what the status of a finished check says of the tuples
abbrev pub IsTold : Settings → Circuit → Status → Type 0
IsTold s gadget Yes = NoneFails s gadget
IsTold s gadget No = NoneFails s gadget → ⊥
IsTold s gadget status = Unit {0}

-- The text is the report of the right answer to each question, its minimal failing tuples and its coefficients, and of
-- the tallies, which were fed these tuples; the verdict on a notion is yes where no tuple fails, and no where some
-- does.
pub record Answers (s : Settings) (g : Circuit) (tallies : Tallying) (status : Status) (text : List ℕ) : Type 0 where
  pub answers : List QuestionAnswer
  pub right : AllZip (IsAnswerTo s g) (questions s g) answers
  pub fed : AreFed s answers tallies
  pub reported : text ≡ report s g answers tallies.after
  pub ends : status ≡ ending (asked_by s.task) answers
  pub told : IsTold s g status

-- The tallies were fed the answer to each question, though no report of it was written.
pub record FeedsAnswers (s : Settings) (gadget : Circuit) (tallies : Tallying) : Type 0 where
  pub answers : List QuestionAnswer
  pub right : AllZip (IsAnswerTo s gadget) (questions s gadget) answers
  pub fed : AreFed s answers tallies

-- the source is as it was
abbrev pub ReadsNothing : {S : Type 0} → Reading S → Type 0
ReadsNothing reading = reading.after ≡ reading.before

-- All that was left of the source was read, no more than a file may have; where the source tells, it is these bytes.
pub record ReadsAll {S : Type 0} (reading : Reading S) (bytes : List ℕ) : Type 0 where
  pub whole : IfSome (reading.left reading.before) (λ left. bytes ≡ left)
  pub end : IsAtEnd (reading.left reading.after)
  pub few : length bytes ≤ most_file_bytes

-- The bytes of a file that a check makes, and nothing is read; or, where it makes none, all that was left of the
-- source.
abbrev pub HasFileBy : {S : Type 0} → Option (List ℕ) → Reading S → List ℕ → Type 0
HasFileBy (Some made) reading bytes = (bytes ≡ made) × ReadsNothing reading
HasFileBy None reading bytes = ReadsAll reading bytes

-- The file of a check has these bytes.
abbrev pub HasFile : {S : Type 0} → Settings → Reading S → List ℕ → Type 0
HasFile s reading bytes = HasFileBy (made_file s) reading bytes

-- The words ask for a check, its file is accepted, and this holds of the check of the file's gadget.
pub record Reads
    {S : Type 0} (words : List (List ℕ)) (reading : Reading S) (Holds : Settings → Circuit → Type 0) : Type 0 where
  pub bytes : List ℕ
  pub settings : Settings
  pub gadget : Circuit
  pub file : HasFile settings reading bytes
  pub accepted : IsAccepted words bytes settings gadget
  pub holds : Holds (check_of settings) gadget

-- The check got as far as this status and this text: the check of the gadget can be done, and this is its answer.
abbrev pub Reaches : {S K : Type 0} → List (List ℕ) → Run S K → Status → List ℕ → Type 0
Reaches words run status text =
    Reads words run.reading (λ s g. IsFeasible s g × Answers s g run.tallies status text)

-- the words ask for some check that reads its file
abbrev pub AsksToRead : List (List ℕ) → Type 0
AsksToRead words = (s : Settings) × (words_ask words ≡ Ok s) × (made_file s ≡ None)

-- exactly so many bytes were taken from the source, where it tells its bytes
abbrev pub Takes : {S : Type 0} → Reading S → ℕ → Type 0
Takes reading count = LosesCount (reading.left reading.before) (reading.left reading.after) count

-- at most so many bytes were taken from the source, where it tells its bytes
abbrev pub TakesAtMost : {S : Type 0} → Reading S → ℕ → Type 0
TakesAtMost reading most = LosesAtMost (reading.left reading.before) (reading.left reading.after) most

-- the source counted a fault
abbrev pub CountsReadFault : {S : Type 0} → Reading S → Type 0
CountsReadFault reading = Rose (reading.faults reading.before) (reading.faults reading.after)

-- the sink counted a fault
abbrev pub CountsWriteFault : {K : Type 0} → Writing K → Type 0
CountsWriteFault writing = Rose (writing.faults writing.before) (writing.faults writing.after)

-- the sink is as it was
abbrev pub WritesNothing : {K : Type 0} → Writing K → Type 0
WritesNothing writing = writing.after ≡ writing.before

-- nothing was written, and no tally was fed
abbrev pub ChangesNothing : {S K : Type 0} → Run S K → Type 0
ChangesNothing run = WritesNothing run.writing × AreKept run.tallies

-- the text stands after what was written before
abbrev pub Writes : {K : Type 0} → Writing K → List ℕ → Type 0
Writes writing text = writing.written writing.after ≡ append_known (writing.written writing.before) text

-- a prefix of the text, and not all of it, stands after what was written before
abbrev pub WritesPrefix : {K : Type 0} → Writing K → List ℕ → Type 0
WritesPrefix writing text =
    AppendsProperPrefix (writing.written writing.before) (writing.written writing.after) text

-- The file that was read is refused for this, its first offence. Want of memory is none.
pub record RefusesFile {S : Type 0} (words : List (List ℕ)) (reading : Reading S) (error : FileError) : Type 0 where
  pub other : error ≢ files.OutOfMemory
  pub asked : AsksToRead words
  pub bytes : List ℕ
  pub read : ReadsAll reading bytes
  pub says : FileSays bytes (Err error)

-- The gadget that was read is refused for this, its first variable outside the class. Want of memory is no reason.
pub record RefusesGadget {S : Type 0} (words : List (List ℕ)) (reading : Reading S) (error : WireError) : Type 0 where
  pub other : error ≢ wires.OutOfMemory
  pub asked : AsksToRead words
  pub bytes : List ℕ
  pub gadget : Circuit
  pub read : ReadsAll reading bytes
  pub says : FileSays bytes (Ok gadget)
  pub refused : Refuses gadget error

-- more is left than a file may have, where the source tells that, and one byte more was read
abbrev pub ReadsTooMuch : {S : Type 0} → Reading S → Type 0
ReadsTooMuch reading = IsLonger (reading.left reading.before) most_file_bytes × Takes reading (most_file_bytes + 1)

-- the check reached this status with a text, and wrote it
abbrev pub Completes : {S K : Type 0} → List (List ℕ) → Run S K → Status → Type 0
Completes words run status = (text : List ℕ) × Reaches words run status text × Writes run.writing text

-- the check reached some status with a text, and wrote a prefix of it
abbrev pub BreaksOff : {S K : Type 0} → List (List ℕ) → Run S K → Type 0
BreaksOff words run =
    (status : Status) × (text : List ℕ) × Reaches words run status text × WritesPrefix run.writing text

-- The words are refused for this, the first thing that is wrong with them, before anything is read.
abbrev pub RefusesWords : {S : Type 0} → List (List ℕ) → Reading S → WordsError → Type 0
RefusesWords words reading error = (words_ask words ≡ Err error) × ReadsNothing reading

-- nothing was read; or the words ask to read, and no more was read than a file may have and one byte
abbrev pub ReadsLittle : {S : Type 0} → List (List ℕ) → Reading S → Type 0
ReadsLittle words reading = ReadsNothing reading ⊎ (AsksToRead words × TakesAtMost reading (most_file_bytes + 1))

-- no tally was fed, or each was fed all failing tuples of the check
abbrev pub FeedsAllOrNone : {S K : Type 0} → List (List ℕ) → Run S K → Type 0
FeedsAllOrNone words run =
    AreKept run.tallies
    ⊎ Reads words run.reading (λ s g. IsFeasible s g × FeedsAnswers s g run.tallies)

-- How a check ends: a line for each status, in the order of docs/REPORT.md.
abbrev pub Ends : {S K : Type 0} → List (List ℕ) → Run S K → Status → Type 0
Ends words run Yes = Completes words run Yes
Ends words run No = Completes words run No
Ends words run Listed = Completes words run Listed
Ends words run (Usage kind) = RefusesWords words run.reading (refused.Usage kind) × ChangesNothing run
Ends words run SizeNotUsed = RefusesWords words run.reading refused.SizeNotUsed × ChangesNothing run
Ends words run (File error) = RefusesFile words run.reading error × ChangesNothing run
Ends words run (Wires error) = RefusesGadget words run.reading error × ChangesNothing run
Ends words run TooLong = AsksToRead words × ReadsTooMuch run.reading × ChangesNothing run
Ends words run (NotForGadget why) = Reads words run.reading (λ s g. IsUnsuited s g why) × ChangesNothing run
Ends words run (Budget count) = Reads words run.reading (λ s g. IsOverBudget s g count) × ChangesNothing run
Ends words run ReadFault =
    AsksToRead words × CountsReadFault run.reading × TakesAtMost run.reading most_file_bytes × ChangesNothing run
Ends words run WriteFault = CountsWriteFault run.writing × BreaksOff words run
Ends words run OutOfMemory =
    ReadsLittle words run.reading × FeedsAllOrNone words run × WritesNothing run.writing

-- A valid check of a file: the source tells the bytes of one that is accepted, the check of its gadget can be done, and
-- neither a read nor a write fails.
pub record IsValid {S K : Type 0} (words : List (List ℕ)) (run : Run S K) : Type 0 where
  pub bytes : List ℕ
  pub settings : Settings
  pub gadget : Circuit
  pub made : made_file settings ≡ None
  pub told : run.reading.left run.reading.before ≡ Some bytes
  pub few : length bytes ≤ most_file_bytes
  pub accepted : IsAccepted words bytes settings gadget
  pub feasible : IsFeasible (check_of settings) gadget
  pub reads : CountsReadFault run.reading → ⊥
  pub writes : CountsWriteFault run.writing → ⊥

-- A valid demonstration: the check of the gadget of the file that it makes is within the budget, and no write fails.
pub record IsValidDemo {S K : Type 0} (words : List (List ℕ)) (run : Run S K) : Type 0 where
  pub made : List ℕ
  pub settings : Settings
  pub asked : words_ask words ≡ Ok settings
  pub makes : made_file settings ≡ Some made
  pub within : (gadget : Circuit) → FileSays made (Ok gadget) → work (check_of settings) gadget ≤ settings.budget
  pub writes : CountsWriteFault run.writing → ⊥

-- a report was written, unless memory ran out
abbrev pub IsDoneIfMemoryLasts : Status → Type 0
IsDoneIfMemoryLasts status = (status ≡ Yes) ⊎ (status ≡ No) ⊎ (status ≡ Listed) ⊎ (status ≡ OutOfMemory)
