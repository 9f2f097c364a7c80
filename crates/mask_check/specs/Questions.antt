-- What a check asks of a gadget: its questions, and the answer to each.
use Rattle.std.specs.Prelude.{◌≡◌, ℕ, ◌*◌, List, [], ◌∷◌, length, map, Some, Contains}
use Rattle.gadget_model.specs.Circuit.{Circuit}
use Rattle.tuple_model.specs.Tuples.{IsTuple, tuples}
use Rattle.tuple_model.specs.Minimal.{IsAnswer}
use Rattle.mask_terms.specs.declared.task.Task.{Task}
use Rattle.mask_terms.specs.declared.task.Task.TheVariants as task
use Rattle.mask_terms.specs.declared.wires.Wires.{Wires}
use Rattle.wire_table.specs.Items.{Item}
use Rattle.wire_table.specs.Uses.{wire_items}
use Rattle.wire_counts.specs.Coefficients.{AreCoefficients, weights_of}
use Rattle.notions.specs.Items.{items_of}
use Rattle.notions.specs.Notions.{Fails, HasTooManyOutputs}
use Rattle.notions.specs.declared.notion.Notion.{Notion as NotionKind}
use Rattle.notions.specs.declared.notion.Notion.TheVariants as notion
use Rattle.rp_events.specs.Events.{Event, events_of, refusal}
use Rattle.rp_events.specs.Failing.{FailsEvent}
use Rattle.rp_events.specs.declared.rp.Rp.TheVariants as rp
use Rattle.rp_events.specs.declared.rp.RpError.TheVariants as errors
use Rattle.mask_words.specs.declared.answer.Settings.{Settings}
use Rattle.report.specs.declared.status.NotFor.{NotFor}
use Rattle.report.specs.declared.status.NotFor.TheVariants.{SeveralOutputs, ManyInputs, OrderTooLarge, ManyEvents}
use Rattle.mask_check.specs.declared.asked.Asked.{Asked}
use Rattle.mask_check.specs.declared.asked.Asked.TheVariants.{Notion, Leaking}

-- what a task asks of a gadget: a notion, or the events of random probing
abbrev pub asked_by : Task → Asked
asked_by task.Ni = Notion notion.Ni
asked_by task.Tni = Notion notion.Tni
asked_by task.Sni = Notion notion.Sni
asked_by task.Pini = Notion notion.Pini
asked_by task.Rpc = Leaking rp.Rpc
asked_by task.Rpe = Leaking rp.Rpe
asked_by task.Demo = Notion notion.Sni
asked_by task.DemoRefresh = Notion notion.Sni

-- A question: which tuples fail. Which break a notion of an order; or which tuples of leaking wires fail for an event
-- of an order.
pub data Question : Type 0 where
  breaks : NotionKind → ℕ → Question
  fails_for : Event → ℕ → Wires → Question

-- the tuples that fail
abbrev pub FailsIn : Circuit → Question → List ℕ → Type 0
FailsIn g (breaks n t) tuple = Fails n g t (items_of n g) tuple
FailsIn g (fails_for event t wires) tuple = FailsEvent g t event (wire_items wires g) tuple

-- the items of which all questions are asked
abbrev pub items_by : Asked → Settings → Circuit → List Item
items_by (Notion n) s g = items_of n g
items_by (Leaking kind) s g = wire_items s.wires g

abbrev pub items : Settings → Circuit → List Item
items s g = items_by (asked_by s.task) s g

-- the questions of what is asked, by these settings
abbrev pub questions_by : Asked → Settings → Circuit → List Question
questions_by (Notion n) s g = breaks n s.t ∷ []
questions_by (Leaking kind) s g = map (λ event. fails_for event s.t s.wires) (events_of kind g s.t)

-- the questions of a check
abbrev pub questions : Settings → Circuit → List Question
questions s g = questions_by (asked_by s.task) s g

-- why a gadget doesn't suit what is asked
abbrev pub IsUnsuitedBy : Asked → Settings → Circuit → NotFor → Type 0
IsUnsuitedBy (Notion n) s g SeveralOutputs = HasTooManyOutputs n g
IsUnsuitedBy (Leaking kind) s g ManyInputs = refusal kind g s.t ≡ Some errors.ManyInputs
IsUnsuitedBy (Leaking kind) s g OrderTooLarge = refusal kind g s.t ≡ Some errors.OrderTooLarge
IsUnsuitedBy (Leaking kind) s g (ManyEvents count) = refusal kind g s.t ≡ Some (errors.ManyEvents count)
IsUnsuitedBy _ s g why = ⊥

-- why a gadget doesn't suit a check
abbrev pub IsUnsuited : Settings → Circuit → NotFor → Type 0
IsUnsuited s g why = IsUnsuitedBy (asked_by s.task) s g why

-- nothing speaks against it
abbrev pub IsSuited : Settings → Circuit → Type 0
IsSuited s g = (why : NotFor) → IsUnsuited s g why → ⊥

-- how many tuples a question asks about
abbrev pub tuple_count : Settings → Circuit → ℕ
tuple_count s g = length (tuples (length (items s g)) s.size)

-- The work of a check: the number of its questions times that of the tuples of one.
abbrev pub work : Settings → Circuit → ℕ
work s g = length (questions s g) * tuple_count s g

-- what is answered to a question: the failing tuples, and numbers of sets of wires
pub record QuestionAnswer : Type 0 where
  pub failing : List (List ℕ)
  pub coefficients : List ℕ

-- The coefficients of a question: of an event, for each size, the number of sets of so many wires that fail; of a
-- notion there are none.
abbrev pub AreCoefficientsOf : Settings → Circuit → Question → List ℕ → Type 0
AreCoefficientsOf s g (breaks n t) coefficients = coefficients ≡ []
AreCoefficientsOf s g (fails_for event t wires) coefficients =
    AreCoefficients (FailsIn g (fails_for event t wires)) (weights_of (items s g)) s.size coefficients

-- The answer to a question: its minimal failing tuples, and its coefficients.
pub record IsAnswerTo (s : Settings) (g : Circuit) (question : Question) (answer : QuestionAnswer) : Type 0 where
  pub minimal : IsAnswer (FailsIn g question) (length (items s g)) s.size answer.failing
  pub counted : AreCoefficientsOf s g question answer.coefficients

-- no tuple fails that the check asks about
abbrev pub NoneFails : Settings → Circuit → Type 0
NoneFails s g =
    (question : Question) → Contains (questions s g) question →
    (tuple : List ℕ) → IsTuple (length (items s g)) s.size tuple → FailsIn g question tuple → ⊥
