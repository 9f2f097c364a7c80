-- What a check does to the tallies that it is handed in with, and what it prints of them.
use Rattle.std.specs.Prelude.{◌≡◌, ℕ, List, [], if◌then◌else◌, map, flat_map}
use Rattle.wire_table.specs.Items.{Item}
use Rattle.tallies.specs.Counting.{TallyState, fed, cells}
use Rattle.tallies.specs.declared.tally.TallyKind.{TallyKind}
use Rattle.report.specs.Report.{tally_line}
use Rattle.mask_words.specs.declared.answer.Settings.{Settings}
use Rattle.mask_check.specs.Questions.{QuestionAnswer}

-- a tally of a kind, with its counts
abbrev pub state_of : TallyKind → List ℕ → TallyState
state_of kind counts = record { kind = kind; counts = counts }

-- the tallies before and after a check, each at its place
pub record Tallying : Type 0 where
  pub before : List TallyState
  pub after : List TallyState

-- the tallies of two lists of objects, each of which is seen as a tally
abbrev pub tallying_of : {T : Type 0} → (T → TallyState) → List T → List T → Tallying
tallying_of seen before after = record { before = map seen before; after = map seen after }

-- the failing tuples in the order in which a report prints them: by question, and as each answer has them
abbrev pub printed : List QuestionAnswer → List (List ℕ)
printed answers = flat_map (λ answer. answer.failing) answers

-- Where tallies are asked for, each was fed every printed tuple, in order; where they aren't, none was fed.
abbrev pub AreFed : Settings → List QuestionAnswer → Tallying → Type 0
AreFed s answers tallies =
    tallies.after ≡ (if s.tallies then map (λ state. fed state (printed answers)) tallies.before else tallies.before)

-- no tally was fed
abbrev pub AreKept : Tallying → Type 0
AreKept tallies = tallies.after ≡ tallies.before

-- the lines of a tally: of each cell whose count isn't 0
abbrev pub tally_lines : List Item → TallyState → List ℕ
tally_lines of_items state = flat_map (tally_line of_items) (cells state.kind state.counts)

-- where tallies are asked for, the lines of each, in order
abbrev pub tally_part : Settings → List Item → List TallyState → List ℕ
tally_part s of_items tallies = if s.tallies then flat_map (tally_lines of_items) tallies else []
