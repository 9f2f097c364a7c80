-- From the answers of queries to how a check ends and its report.
use Rattle.std.proofs.Common.{◌≡◌, ℕ, ◌<◌, ◌⊎◌, Bool, true, false, List, [], ◌∷◌, ◌++◌, length, map, ap, ◌∙◌, sym, refl, inl, inr, subst, ◌↔◌, append-nil, if◌then◌else◌}
use Rattle.std.specs.Prelude.{IsTrue, Contains, All}
use Rattle.std.specs.List.{AllZip}
use Rattle.std.proofs.lemmas.Bool.{false≢true}
use Rattle.std.proofs.lemmas.List.Elements.{All-weaker, All-contains_itself}
use Rattle.list_laws.proofs.Members.{Contains-cons_head, Contains-cons_cases}
use Rattle.list_laws.proofs.Once.{Contains-nil}
use Rattle.gadget_model.specs.Circuit.{Circuit}
use Rattle.tuple_model.specs.Tuples.{IsTuple}
use Rattle.tuple_model.specs.Minimal.{IsAnswer}
use Rattle.tuple_model.proofs.Rising.{IsRising-member}
use Rattle.tuple_model.proofs.Answers.{none_fails-from_empty, minimal-from_answer}
use Rattle.wire_table.specs.Items.{Item}
use Rattle.notions.specs.declared.notion.Notion.{Notion as NotionKind}
use Rattle.rp_events.specs.declared.rp.Rp.{Rp}
use Rattle.rp_events.specs.Events.{events_of}
use Rattle.mask_words.specs.declared.answer.Settings.{Settings}
use Rattle.report.specs.Report.{fail_lines, verdict}
use Rattle.report.specs.Additions.{AreAmong}
use Rattle.report.specs.declared.status.Status.{Status}
use Rattle.report.specs.declared.status.Status.TheVariants.{Yes, No, Listed}
use Rattle.mask_check.specs.declared.asked.Asked.{Asked}
use Rattle.mask_check.specs.declared.asked.Asked.TheVariants.{Notion, Leaking}
use Rattle.mask_check.specs.Questions.{Question, breaks, asked_by, questions, questions_by, items, FailsIn, QuestionAnswer, IsAnswerTo, NoneFails}
use Rattle.mask_check.specs.Report.{head_lines, leak_lines, answer_lines, greatest_lines, listing_by, are_empty, ending}
use Rattle.mask_check.specs.Tallying.{Tallying, AreFed, tally_part}
use Rattle.mask_check.specs.Decisions.{event_questions, answer_of_notion, AnswersUntallied}
use Rattle.mask_check.specs.Ends.{Answers, IsTold}

-- the items of the tuples of an answer are among those that it is of
pub AreAmong-from_answer : (Fails : List ℕ → Type 0) (of_items : List Item) (size : ℕ) (answer : List (List ℕ)) →
    IsAnswer Fails (length of_items) size answer → All (AreAmong of_items) answer
AreAmong-from_answer Fails of_items size answer is =
    All-weaker (Contains answer) (AreAmong of_items) (λ t among.
    let tuple = (minimal-from_answer Fails (length of_items) size answer t is among).0 in
    All-weaker (Contains t) (λ i. i < length of_items) (λ i k. (IsRising-member 0 (length of_items) t i tuple.rising k).1) t (All-contains_itself t))
    answer (All-contains_itself answer)

-- the lines that are added one after the other to an empty report
pub added_lines : (new with_head with_fails whole head_ fails verdict_ head_is fails_are : List ℕ) → new ≡ [] → with_head ≡ new ++ head_ →
    with_fails ≡ with_head ++ fails → whole ≡ with_fails ++ verdict_ → head_ ≡ head_is → fails ≡ fails_are → whole ≡ head_is ++ fails_are ++ verdict_
added_lines new with_head with_fails whole head_ fails verdict_ head_is fails_are e h f v i j =
    v ∙ ap (λ (xs : List ℕ). xs ++ verdict_) (f ∙ ap (λ (xs : List ℕ). xs ++ fails) (h ∙ ap (λ (xs : List ℕ). xs ++ head_) e ∙ i) ∙ ap (λ (xs : List ℕ). head_is ++ xs) j)

empty_or_some : (xs : List (List ℕ)) → (xs ≡ []) ⊎ ((x : List ℕ) × Contains xs x)
empty_or_some [] = inl refl
empty_or_some (x ∷ xs) = inr (x, Contains-cons_head x xs)

-- where no tuple fails none is listed
none_listed : (Failing : List ℕ → Type 0) (count size : ℕ) (answer : List (List ℕ)) → IsAnswer Failing count size answer →
    ((t : List ℕ) → IsTuple count size t → Failing t → ⊥) → answer ≡ []
none_listed Failing count size answer is h = elim (empty_or_some answer) [
  | inl e ↦ e
  | inr (x, among) ↦ let found = minimal-from_answer Failing count size answer x is among in absurd (h x found.0 found.1.fails)
]

-- whether the one answer is empty
are_empty-one : (failing : List (List ℕ)) (secure : Bool) → IsTrue secure ↔ (failing ≡ []) → secure ≡ are_empty (answer_of_notion failing ∷ [])
are_empty-one [] true h = refl
are_empty-one [] false h = absurd (false≢true (h.1 refl))
are_empty-one (t ∷ ts) true h = let e = h.0 refl in absurd (cc)
are_empty-one (t ∷ ts) false h = refl

-- a report that lists right answers
module _ (s : Settings) (g : Circuit) (asks : Asked) (are : asked_by s.task ≡ asks) where
  of_questions : questions s g ≡ questions_by asks s g
  of_questions = ap (λ (a : Asked). questions_by a s g) are

  pub AnswersUntallied-from : (answers : List QuestionAnswer) (status : Status) (text : List ℕ) → AllZip (IsAnswerTo s g) (questions_by asks s g) answers →
      text ≡ listing_by asks (questions_by asks s g) s g answers → status ≡ ending asks answers → IsTold s g status → AnswersUntallied s g answers status text
  AnswersUntallied-from answers status text right written ended told = record {
    right = subst (λ (qs : List Question). AllZip (IsAnswerTo s g) qs answers) (sym of_questions) right;
    listed = written ∙ ap (λ (a : Asked). listing_by a (questions_by a s g) s g answers) (sym are);
    ends = ended ∙ ap (λ (a : Asked). ending a answers) (sym are);
    told = told;
  }

-- with the lines of the tallies it is the whole report
pub Answers-from_untallied : (s : Settings) (g : Circuit) (tallies : Tallying) (answers : List QuestionAnswer) (status : Status) (text whole : List ℕ) →
    AnswersUntallied s g answers status text → AreFed s answers tallies → whole ≡ text ++ tally_part s (items s g) tallies.after → Answers s g tallies status whole
Answers-from_untallied s g tallies answers status text whole untallied fed added = record {
  answers = answers;
  right = untallied.right;
  fed = fed;
  reported = added ∙ ap (λ (xs : List ℕ). xs ++ tally_part s (items s g) tallies.after) untallied.listed;
  ends = untallied.ends;
  told = untallied.told;
}

module _ (s : Settings) (g : Circuit) (n : NotionKind) (are : asked_by s.task ≡ Notion n) (failing : List (List ℕ))
    (is : IsAnswerTo s g (breaks n s.t) (answer_of_notion failing)) where
  -- no tuple fails where none is listed, and the other way round
  NoneFails-from_empty : failing ≡ [] → NoneFails s g
  NoneFails-from_empty e q among tuple fits fails =
      let here : Contains (breaks n s.t ∷ []) q = subst (λ (qs : List Question). Contains qs q) (of_questions s g (Notion n) are) among in
      elim (Contains-cons_cases (breaks n s.t) [] q here) [
        | inl same ↦
            none_fails-from_empty (FailsIn g (breaks n s.t)) (length (items s g)) s.size failing is.minimal e tuple fits
            (subst (λ (p : Question). FailsIn g p tuple) (sym same) fails)
        | inr nowhere ↦ absurd (Contains-nil q nowhere)
      ]

  empty-from_NoneFails : NoneFails s g → failing ≡ []
  empty-from_NoneFails none =
      none_listed (FailsIn g (breaks n s.t)) (length (items s g)) s.size failing is.minimal
      (none (breaks n s.t) (subst (λ (qs : List Question). Contains qs (breaks n s.t)) (sym (of_questions s g (Notion n) are)) (Contains-cons_head (breaks n s.t) [])))

  -- the status of a verdict
  abbrev status_by : Bool → Status
  status_by secure = if secure then Yes else No

  told : (secure : Bool) → IsTrue secure ↔ (failing ≡ []) → IsTold s g (status_by secure)
  told true h = NoneFails-from_empty (h.0 refl)
  told false h = λ none. false≢true (h.1 (empty-from_NoneFails none))

  -- the verdict and the report of the one answer
  pub AnswersUntallied-verdict : (secure : Bool) (status : Status) (text : List ℕ) → IsTrue secure ↔ (failing ≡ []) → status ≡ status_by secure →
      text ≡ head_lines s g ++ fail_lines (items s g) failing ++ verdict secure → AnswersUntallied s g (answer_of_notion failing ∷ []) status text
  AnswersUntallied-verdict secure status text empty ended written =
      let one : secure ≡ are_empty (answer_of_notion failing ∷ []) = are_empty-one failing secure empty in
      let lines : fail_lines (items s g) failing ≡ answer_lines (items s g) (breaks n s.t ∷ []) (answer_of_notion failing ∷ []) =
      sym (append-nil (fail_lines (items s g) failing)) ∙ sym (append-nil (fail_lines (items s g) failing ++ [])) in
      AnswersUntallied-from s g (Notion n) are (answer_of_notion failing ∷ []) status text (is, tt)
      (written
      ∙ ap (λ (xs : List ℕ). xs ++ fail_lines (items s g) failing ++ verdict secure) (sym (append-nil (head_lines s g)))
      ∙ ap (λ (xs : List ℕ). head_lines s g ++ [] ++ xs ++ verdict secure) lines
      ∙ ap (λ (yes_ : Bool). head_lines s g ++ [] ++ answer_lines (items s g) (breaks n s.t ∷ []) (answer_of_notion failing ∷ []) ++ verdict yes_) one)
      (ended ∙ ap status_by one)
      (subst (IsTold s g) (sym ended) (told secure empty))

-- the answers of random probing
pub AnswersUntallied-listed : (s : Settings) (g : Circuit) (kind : Rp) → asked_by s.task ≡ Leaking kind → (answers : List QuestionAnswer) (text : List ℕ) →
    AllZip (IsAnswerTo s g) (event_questions s (events_of kind g s.t)) answers →
    text ≡ head_lines s g ++ leak_lines (Leaking kind) s g ++ answer_lines (items s g) (event_questions s (events_of kind g s.t)) answers
    ++ greatest_lines (event_questions s (events_of kind g s.t)) answers →
    AnswersUntallied s g answers Listed text
AnswersUntallied-listed s g kind are answers text right written = AnswersUntallied-from s g (Leaking kind) are answers Listed text right written refl tt
