-- The answers to the questions of events and their lines, one event after the other.
use Rattle.std.proofs.Common.{◌≡◌, ◌∙◌, ◌≤◌, ◌+◌, ◌⊎◌, inl, inr, ℕ, List, [], ◌∷◌, ◌++◌, All, map, take, ap, sym, subst, refl, append-nil, append_assoc, arith}
use Rattle.std.specs.List.{AllZip}
use Rattle.std.proofs.lemmas.List.{map-append}
use Rattle.std.proofs.lemmas.List.Elements.{All-head, All-tail, All-map, All-weaker}
use Rattle.std.proofs.lemmas.Slice.Zip.{all_zipped_more}
use Rattle.gadget_model.specs.Circuit.{Circuit}
use Rattle.wire_table.specs.CodeItems.{HasSmallWeight}
use Rattle.wire_table.specs.Items.{Item}
use Rattle.wire_counts.specs.Coefficients.{weights_of}
use Rattle.wire_counts.specs.Limits.{most_weight}
use Rattle.rp_events.specs.declared.event.Event as of_code
use Rattle.rp_events.specs.Questions.{event_of}
use Rattle.mask_words.specs.declared.answer.Settings.{Settings}
use Rattle.mask_check.specs.declared.answer.QuestionAnswer as code
use Rattle.mask_check.specs.Questions.{Question, QuestionAnswer, IsAnswerTo}
use Rattle.mask_check.specs.Report.{answer_lines, question_lines}
use Rattle.mask_check.specs.Decisions.{answer_of, event_question, event_questions, AreAnswersTo, IsOfItems}

-- the weights of a query's items may be counted with
pub small_weights : (of_items : List Item) → All HasSmallWeight of_items → All (λ weight. weight ≤ most_weight) (weights_of of_items)
small_weights of_items small =
    All-map (λ weight. weight ≤ most_weight) (λ (item : Item). item.weight) of_items
    (All-weaker HasSmallWeight (λ (item : Item). item.weight ≤ most_weight) (λ item few. let l = few.1 in omega arith) of_items small)

-- the answer to one event more
pub AreAnswersTo-more : (s : Settings) (g : Circuit) (events : List of_code.Event) (k : ℕ) (event : of_code.Event)
    (answers pushed : List code.QuestionAnswer) (answer : code.QuestionAnswer) →
    take (k + 1) events ≡ take k events ++ event ∷ [] → pushed ≡ answers ++ answer ∷ [] →
    AreAnswersTo s g (map event_of (take k events)) (map answer_of answers) → IsAnswerTo s g (event_question s (event_of event)) (answer_of answer) →
    AreAnswersTo s g (map event_of (take (k + 1) events)) (map answer_of pushed)
AreAnswersTo-more s g events k event answers pushed answer taken more before right =
    let told : event_questions s (map event_of (take (k + 1) events)) ≡ event_questions s (map event_of (take k events)) ++ event_question s (event_of event) ∷ [] =
    ap (λ (es : List of_code.Event). event_questions s (map event_of es)) taken
    ∙ ap (event_questions s) (map-append event_of (take k events) (event ∷ []))
    ∙ map-append (event_question s) (map event_of (take k events)) (event_of event ∷ []) in
    let given : map answer_of pushed ≡ map answer_of answers ++ answer_of answer ∷ [] = ap (map answer_of) more ∙ map-append answer_of answers (answer ∷ []) in
    let P : List Question → List QuestionAnswer → Type 0 = λ qs as_. AllZip (IsAnswerTo s g) qs as_ in
    subst (λ (qs : List Question). P qs (map answer_of pushed)) (sym told)
    (subst (P (event_questions s (map event_of (take k events)) ++ event_question s (event_of event) ∷ [])) (sym given)
    (all_zipped_more (IsAnswerTo s g) (event_questions s (map event_of (take k events))) (map answer_of answers)
    (event_question s (event_of event)) (answer_of answer) before right))

-- the parts of an event's lines, added one after the other
pub added_parts : (old with_name with_fails whole name fails coefficients : List ℕ) → with_name ≡ old ++ name → with_fails ≡ with_name ++ fails →
    whole ≡ with_fails ++ coefficients → whole ≡ old ++ (name ++ fails ++ coefficients)
added_parts old with_name with_fails whole name fails coefficients e f h =
    h ∙ ap (λ (xs : List ℕ). xs ++ coefficients) (f ∙ ap (λ (xs : List ℕ). xs ++ fails) e ∙ append_assoc old name fails)
    ∙ append_assoc old (name ++ fails) coefficients

-- the first of the answers still to come is of these items
pub IsOfItems-next : (of_items : List Item) (answer : code.QuestionAnswer) (answers all_answers : List code.QuestionAnswer) →
    all_answers ≡ answer ∷ answers → All (IsOfItems of_items) (map answer_of all_answers) →
    IsOfItems of_items (answer_of answer) × All (IsOfItems of_items) (map answer_of answers)
IsOfItems-next of_items answer answers all_answers are all =
    let P : List code.QuestionAnswer → Type 0 = λ as_. All (IsOfItems of_items) (map answer_of as_) in
    let there = subst P are all in (
      All-head (IsOfItems of_items) (answer_of answer) (map answer_of answers) there,
      All-tail (IsOfItems of_items) (answer_of answer) (map answer_of answers) there,
    )

-- the lines of the first of the events still to come
pub answer_lines-next : (of_items : List Item) (s : Settings) (event : of_code.Event) (answer : code.QuestionAnswer)
    (events all_events : List of_code.Event) (answers all_answers : List code.QuestionAnswer) (before after whole : List ℕ) →
    all_events ≡ event ∷ events → all_answers ≡ answer ∷ answers →
    after ≡ before ++ question_lines of_items (event_question s (event_of event)) (answer_of answer) →
    before ++ answer_lines of_items (event_questions s (map event_of all_events)) (map answer_of all_answers) ≡ whole →
    after ++ answer_lines of_items (event_questions s (map event_of events)) (map answer_of answers) ≡ whole
answer_lines-next of_items s event answer events all_events answers all_answers before after whole first second added come =
    let rest = answer_lines of_items (event_questions s (map event_of events)) (map answer_of answers) in
    ap (λ (xs : List ℕ). xs ++ rest) added
    ∙ append_assoc before (question_lines of_items (event_question s (event_of event)) (answer_of answer)) rest
    ∙ ap (λ (es : List of_code.Event). before ++ answer_lines of_items (event_questions s (map event_of es)) (map answer_of (answer ∷ answers))) (sym first)
    ∙ ap (λ (as_ : List code.QuestionAnswer). before ++ answer_lines of_items (event_questions s (map event_of all_events)) (map answer_of as_)) (sym second)
    ∙ come

answer_lines-no_answers : (of_items : List Item) (questions : List Question) → answer_lines of_items questions [] ≡ []
answer_lines-no_answers of_items [] = refl
answer_lines-no_answers of_items (question ∷ questions) = refl

answer_lines-empty : (of_items : List Item) (s : Settings) (events : List of_code.Event) (answers : List code.QuestionAnswer) →
    (events ≡ []) ⊎ (answers ≡ []) → answer_lines of_items (event_questions s (map event_of events)) (map answer_of answers) ≡ []
answer_lines-empty of_items s events answers (inl none) =
    ap (λ (es : List of_code.Event). answer_lines of_items (event_questions s (map event_of es)) (map answer_of answers)) none
answer_lines-empty of_items s events answers (inr none) =
    ap (λ (as_ : List code.QuestionAnswer). answer_lines of_items (event_questions s (map event_of events)) (map answer_of as_)) none
    ∙ answer_lines-no_answers of_items (event_questions s (map event_of events))

-- no event or no answer is still to come
pub answer_lines-done : (of_items : List Item) (s : Settings) (events : List of_code.Event) (answers : List code.QuestionAnswer) (before whole : List ℕ) →
    (events ≡ []) ⊎ (answers ≡ []) → before ++ answer_lines of_items (event_questions s (map event_of events)) (map answer_of answers) ≡ whole → before ≡ whole
answer_lines-done of_items s events answers before whole none come =
    sym (append-nil before) ∙ ap (λ (xs : List ℕ). before ++ xs) (sym (answer_lines-empty of_items s events answers none)) ∙ come
