-- What a check answers of a gadget, and why it may refuse it.
use Rattle.std.specs.Prelude.{◌≡◌, ◌≤◌, ◌+◌, ◌⊎◌, ℕ, false, List, [], map, All, Option, Some, None}
use Rattle.std.specs.List.{AllZip}
use Rattle.gadget_model.specs.Circuit.{Circuit}
use Rattle.gadget_text.specs.Limits.{most_file_bytes}
use Rattle.tuple_model.specs.Limits.{most_size}
use Rattle.mask_terms.specs.Tasks.{is_demo}
use Rattle.wire_table.specs.Items.{Item}
use Rattle.notions.specs.declared.notion.Notion.{Notion as NotionKind}
use Rattle.notions.specs.declared.notion.NotionError.{NotionError}
use Rattle.notions.specs.declared.notion.NotionError.TheVariants as notion_errors
use Rattle.rp_events.specs.Events.{Event}
use Rattle.rp_events.specs.declared.rp.Rp.{Rp}
use Rattle.rp_events.specs.declared.rp.RpError.{RpError}
use Rattle.rp_events.specs.declared.rp.RpError.TheVariants as event_errors
use Rattle.mask_words.specs.Options.{least_words, most_budget, most_words, most_workers}
use Rattle.mask_words.specs.declared.answer.Settings.{Settings}
use Rattle.report.specs.Additions.{AreAmong}
use Rattle.report.specs.declared.status.NotFor.TheVariants.{SeveralOutputs, ManyInputs, OrderTooLarge, ManyEvents}
use Rattle.report.specs.declared.status.Status.{Status}
use Rattle.report.specs.declared.status.Status.TheVariants.{NotForGadget, Budget, TooLong, ReadFault, OutOfMemory}
use Rattle.mask_check.specs.declared.answer.Answer.{Answer}
use Rattle.mask_check.specs.declared.answer.QuestionAnswer as code
use Rattle.mask_check.specs.declared.asked.Asked.TheVariants.{Notion, Leaking}
use Rattle.mask_check.specs.Demonstrations.{made_file}
use Rattle.mask_check.specs.Questions.{asked_by, questions, Question, breaks, fails_for, items, tuple_count, IsUnsuited}
use Rattle.mask_check.specs.Questions.{QuestionAnswer, IsAnswerTo}
use Rattle.mask_check.specs.Report.{ending, greater_each, listing}
use Rattle.mask_check.specs.Tallying.{Tallying, AreKept}
use Rattle.mask_check.specs.Ends.{Answers, FeedsAnswers, IsFeasible, IsOverBudget, IsTold}
use Rattle.mask_check.specs.Ends.{Reading, HasFile, ReadsNothing, ReadsTooMuch, CountsReadFault, TakesAtMost}

-- what holds of all checks that the settings of a command line ask for
pub record IsReady (s : Settings) : Type 0 where
  pub small : s.size ≤ most_size
  pub notion_size : (n : NotionKind) → asked_by s.task ≡ Notion n → s.size ≡ s.t
  pub some_workers : 1 ≤ s.workers
  pub few_workers : s.workers ≤ most_workers
  pub some_block : 1 ≤ s.block
  pub few_tuples : s.budget ≤ most_budget
  pub some_words : least_words ≤ s.words
  pub few_words : s.words ≤ most_words
  pub check : is_demo s.task ≡ false

-- nothing was read; or the check reads its file, and no more was read than a file may have and one byte
abbrev pub ReadsLittleOf : {S : Type 0} → Settings → Reading S → Type 0
ReadsLittleOf s reading =
    ReadsNothing reading ⊎ ((made_file s ≡ None) × TakesAtMost reading (most_file_bytes + 1))

-- the file of a check, for which little was read
abbrev pub GetsFile : {S : Type 0} → Settings → Reading S → List ℕ → Type 0
GetsFile s reading bytes = HasFile s reading bytes × ReadsLittleOf s reading

-- why a check has no file: reading failed, or gave too much, or memory ran out
abbrev pub LacksFile : {S : Type 0} → Settings → Reading S → Status → Type 0
LacksFile s reading TooLong = (made_file s ≡ None) × ReadsTooMuch reading
LacksFile s reading ReadFault =
    (made_file s ≡ None) × CountsReadFault reading × TakesAtMost reading most_file_bytes
LacksFile s reading OutOfMemory = ReadsLittleOf s reading
LacksFile s reading status = ⊥

-- the status of a notion that doesn't suit a gadget
abbrev pub status_of_notion : NotionError → Status
status_of_notion notion_errors.SeveralOutputs = NotForGadget SeveralOutputs
status_of_notion notion_errors.OutOfMemory = OutOfMemory

-- the status of a gadget that has no events
abbrev pub status_of_events : RpError → Status
status_of_events event_errors.ManyInputs = NotForGadget ManyInputs
status_of_events event_errors.OrderTooLarge = NotForGadget OrderTooLarge
status_of_events (event_errors.ManyEvents count) = NotForGadget (ManyEvents count)
status_of_events event_errors.OutOfMemory = OutOfMemory

-- the check is one of random probing
abbrev pub IsLeaking : Settings → Type 0
IsLeaking s = (kind : Rp) × (asked_by s.task ≡ Leaking kind)

-- the check can be done, and this is its answer
abbrev pub Decides : Settings → Circuit → Tallying → Answer → Type 0
Decides s g tallies answer = IsFeasible s g × Answers s g tallies answer.status answer.report

-- no tally was fed, or each was fed all failing tuples of the check, which can be done
abbrev pub FeedsAllOrNoneOf : Settings → Circuit → Tallying → Type 0
FeedsAllOrNoneOf s g tallies = AreKept tallies ⊎ (IsFeasible s g × FeedsAnswers s g tallies)

-- the check of a gadget is refused: the gadget doesn't suit it, the work is over the budget, or memory ran out
abbrev pub Declines : Settings → Circuit → Tallying → Status → Type 0
Declines s g tallies (NotForGadget why) = IsUnsuited s g why × AreKept tallies
Declines s g tallies (Budget count) = IsOverBudget s g count × AreKept tallies
Declines s g tallies OutOfMemory = FeedsAllOrNoneOf s g tallies
Declines s g tallies status = ⊥

-- The text lists the right answers to all questions, and the status is theirs; of tallies nothing is said.
pub record AnswersUntallied
    (s : Settings) (g : Circuit) (answers : List QuestionAnswer) (status : Status) (text : List ℕ) : Type 0 where
  pub right : AllZip (IsAnswerTo s g) (questions s g) answers
  pub listed : text ≡ listing s g answers
  pub ends : status ≡ ending (asked_by s.task) answers
  pub told : IsTold s g status

-- an answer as its question's, of code
abbrev pub answer_of : code.QuestionAnswer → QuestionAnswer
answer_of answer = record { failing = answer.found.live; coefficients = answer.coefficients.items }

-- the answer to the question of a notion, which has no coefficients
abbrev pub answer_of_notion : List (List ℕ) → QuestionAnswer
answer_of_notion failing = record { failing = failing; coefficients = [] }

-- A notion is asked for, these are the check's items, so many tuples of them are asked about, and these are the minimal
-- ones that fail.
pub record IsNotionAnswer
    (s : Settings) (g : Circuit) (of_items : List Item) (count : ℕ) (failing : List (List ℕ)) : Type 0 where
  pub notion : NotionKind
  pub asks : asked_by s.task ≡ Notion notion
  pub items_are : of_items ≡ items s g
  pub counted : count ≡ tuple_count s g
  pub right : IsAnswerTo s g (breaks notion s.t) (answer_of_notion failing)

-- the question of an event
abbrev pub event_question : Settings → Event → Question
event_question s event = fails_for event s.t s.wires

-- the questions of events
abbrev pub event_questions : Settings → List Event → List Question
event_questions s events = map (event_question s) events

-- these are the right answers to the questions of these events
abbrev pub AreAnswersTo : Settings → Circuit → List Event → List QuestionAnswer → Type 0
AreAnswersTo s g events answers = AllZip (IsAnswerTo s g) (event_questions s events) answers

-- the tuples of an answer are of these items
abbrev pub IsOfItems : List Item → QuestionAnswer → Type 0
IsOfItems of_items answer = All (AreAmong of_items) answer.failing

-- the greatest numbers of some lists, where there were any, with these also
abbrev pub greatest_with : Option (List ℕ) → List ℕ → List ℕ
greatest_with None numbers = numbers
greatest_with (Some found) numbers = greater_each found numbers
