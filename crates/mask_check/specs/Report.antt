-- The report of a check: its head, the failing tuples of each question with their counts, and the verdict.
use Rattle.std.specs.Prelude.{ℕ, ◌==◌, Bool, true, false, List, [], ◌∷◌, ◌++◌, if◌then◌else◌, length, map, flat_map, max, Option, Some, None}
use Rattle.std.specs.List.{sum, list_all}
use Rattle.gadget_model.specs.Circuit.{Circuit}
use Rattle.wire_table.specs.Items.{Item}
use Rattle.wire_table.specs.Uses.{wire_items}
use Rattle.wire_table.specs.declared.which.Which.{Which}
use Rattle.wire_table.specs.declared.which.Which.TheVariants.{Any, Input, Both}
use Rattle.tallies.specs.Counting.{TallyState}
use Rattle.mask_words.specs.declared.answer.Settings.{Settings}
use Rattle.report.specs.Report.{head, wires_line, event_line, fail_lines, coefficients_line, greatest_line, verdict}
use Rattle.report.specs.declared.status.Status.{Status}
use Rattle.report.specs.declared.status.Status.TheVariants.{Yes, No, Listed}
use Rattle.mask_check.specs.declared.asked.Asked.{Asked}
use Rattle.mask_check.specs.declared.asked.Asked.TheVariants.{Notion, Leaking}
use Rattle.mask_check.specs.Questions.{asked_by, Question, breaks, fails_for, items, questions, QuestionAnswer, tuple_count}
use Rattle.mask_check.specs.Tallying.{tally_part}

-- the check, the gadget, and the tuples that each question asks about
abbrev pub head_lines : Settings → Circuit → List ℕ
head_lines s g = head s.task s.t g (length (items s g)) s.size (tuple_count s g)

-- for how many wires items stand, all together
abbrev pub total_weight : List Item → ℕ
total_weight of_items = sum (map (λ (item : Item). item.weight) of_items)

-- how many wires leak, of a check of random probing
abbrev pub leak_lines : Asked → Settings → Circuit → List ℕ
leak_lines (Notion n) s g = []
leak_lines (Leaking kind) s g = wires_line s.wires (total_weight (wire_items s.wires g))

-- the line that names a question
abbrev pub name_line : Question → List ℕ
name_line (breaks n t) = []
name_line (fails_for event t wires) = event_line event.name

-- the line of the coefficients of a question
abbrev pub coefficients_part : Question → List ℕ → List ℕ
coefficients_part (breaks n t) coefficients = []
coefficients_part (fails_for event t wires) coefficients = coefficients_line coefficients

-- a question, with its failing tuples of these items and its coefficients
abbrev pub question_lines : List Item → Question → QuestionAnswer → List ℕ
question_lines of_items question answer =
    name_line question ++ fail_lines of_items answer.failing ++ coefficients_part question answer.coefficients

-- each question with its answer
abbrev pub answer_lines : List Item → List Question → List QuestionAnswer → List ℕ
answer_lines of_items (question ∷ questions) (answer ∷ answers) =
    question_lines of_items question answer ++ answer_lines of_items questions answers
answer_lines of_items _ _ = []

-- whether two events ask of the same inputs
abbrev pub same_which : Which → Which → Bool
same_which Any Any = true
same_which (Input k) (Input j) = k == j
same_which Both Both = true
same_which _ _ = false

-- whether a question is an event that asks of these inputs
abbrev pub asks_of : Which → Question → Bool
asks_of which (breaks n t) = false
asks_of which (fails_for event t wires) = same_which which event.which

-- the coefficients of the questions that ask of these inputs
abbrev pub coefficients_for : Which → List Question → List QuestionAnswer → List (List ℕ)
coefficients_for which (question ∷ questions) (answer ∷ answers) =
    if asks_of which question then answer.coefficients ∷ coefficients_for which questions answers
    else coefficients_for which questions answers
coefficients_for which _ _ = []

-- at each place the greater of the two numbers there
abbrev pub greater_each : List ℕ → List ℕ → List ℕ
greater_each (x ∷ xs) (y ∷ ys) = max x y ∷ greater_each xs ys
greater_each _ _ = []

-- at each place the greatest of the numbers there
abbrev pub greatest : List (List ℕ) → List ℕ
greatest [] = []
greatest (numbers ∷ []) = numbers
greatest (numbers ∷ rest) = greater_each numbers (greatest rest)

-- the greatest numbers at each place, where there are any lists
abbrev pub greatest_of : List (List ℕ) → Option (List ℕ)
greatest_of [] = None
greatest_of (numbers ∷ rest) = Some (greatest (numbers ∷ rest))

-- the line of the greatest numbers of some events
abbrev pub greatest_part : Which → Option (List ℕ) → List ℕ
greatest_part which None = []
greatest_part which (Some numbers) = greatest_line which numbers

-- the inputs that events ask of, in the order of a report's last lines
abbrev pub reported_whiches : List Which
reported_whiches = Any ∷ Input 0 ∷ Input 1 ∷ Both ∷ []

-- a line for each kind of event that occurs: for each size the greatest coefficient of the events of this kind
abbrev pub greatest_lines : List Question → List QuestionAnswer → List ℕ
greatest_lines questions answers =
    flat_map (λ which. greatest_part which (greatest_of (coefficients_for which questions answers))) reported_whiches

abbrev pub is_empty : List (List ℕ) → Bool
is_empty [] = true
is_empty (tuple ∷ tuples) = false

-- no tuple is listed
abbrev pub are_empty : List QuestionAnswer → Bool
are_empty answers = list_all (λ answer. is_empty answer.failing) answers

-- how a check with these answers ends: with a verdict on a notion, or with a list
abbrev pub ending : Asked → List QuestionAnswer → Status
ending (Notion n) answers = if are_empty answers then Yes else No
ending (Leaking kind) answers = Listed

-- the verdict on a notion, or the greatest coefficients
abbrev pub last_lines : Asked → List Question → List QuestionAnswer → List ℕ
last_lines (Notion n) questions answers = verdict (are_empty answers)
last_lines (Leaking kind) questions answers = greatest_lines questions answers

-- what a report lists: the failing tuples and the coefficients of each question
abbrev pub listing_by : Asked → List Question → Settings → Circuit → List QuestionAnswer → List ℕ
listing_by asks questions s g answers =
    head_lines s g ++ leak_lines asks s g ++ answer_lines (items s g) questions answers
    ++ last_lines asks questions answers

abbrev pub listing : Settings → Circuit → List QuestionAnswer → List ℕ
listing s g answers = listing_by (asked_by s.task) (questions s g) s g answers

-- The report of a check with these answers and tallies.
abbrev pub report : Settings → Circuit → List QuestionAnswer → List TallyState → List ℕ
report s g answers tallies = listing s g answers ++ tally_part s (items s g) tallies
