-- The lines of the events, one after the other.
use Rattle.std.proofs.Common.{◌≡◌, ◌∙◌, ℕ, ◌*◌, ◌<◌, ◌≤◌, List, [], ◌∷◌, ◌++◌, length, map, None, ap, sym, subst, append-nil, append_assoc, arith}
use Rattle.std.proofs.Math.Nat.{mul_comm}
use Rattle.std.proofs.lemmas.List.{length-map}
use Rattle.std.specs.Prelude.{All}
use Rattle.std.specs.List.{AllZip}
use Rattle.std.proofs.lemmas.List.Elements.{All-nil, All-cons}
use Rattle.gadget_model.specs.Circuit.{Circuit}
use Rattle.tuple_model.specs.Minimal.{IsAnswer}
use Rattle.wire_table.specs.Items.{Item}
use Rattle.wire_table.specs.CodeItems.{item_of}
use Rattle.wire_table.specs.declared.item.Item as code_item
use Rattle.wire_table.specs.Uses.{wire_items}
use Rattle.tuple_model.specs.Tuples.{tuples}
use Rattle.rp_events.specs.declared.rp.Rp.{Rp}
use Rattle.rp_events.specs.Events.{Event, events_of, event_count, refusal}
use Rattle.rp_events.specs.Questions.{event_of}
use Rattle.rp_events.specs.declared.event.Event as code
use Rattle.mask_words.specs.declared.answer.Settings.{Settings}
use Rattle.report.specs.Report.{head, wires_line}
use Rattle.report.specs.declared.status.Status.TheVariants.{Listed}
use Rattle.mask_check.specs.declared.answer.QuestionAnswer as code_answer
use Rattle.mask_check.specs.declared.asked.Asked.TheVariants.{Leaking}
use Rattle.mask_check.specs.Questions.{Question, QuestionAnswer, asked_by, items, tuple_count, work, FailsIn, IsAnswerTo}
use Rattle.mask_check.specs.Report.{answer_lines, greatest_lines, head_lines, leak_lines, question_lines, total_weight}
use Rattle.mask_check.specs.Ends.{IsFeasible, IsOverBudget}
use Rattle.mask_check.specs.Decisions.{answer_of, event_questions, AnswersUntallied, AreAnswersTo, IsOfItems}
use Rattle.mask_check.proofs.Asking.{items-leaking}
use Rattle.mask_check.proofs.Suited.{IsSuited-leaking, work-leaking}
use Rattle.mask_check.proofs.Answering.{AnswersUntallied-listed, AreAmong-from_answer}

-- the lines of one answer more
pub answer_lines-more : (of_items : List Item) (qs : List Question) (answers : List QuestionAnswer) (q : Question) (a : QuestionAnswer) →
    length qs ≡ length answers → answer_lines of_items (qs ++ q ∷ []) (answers ++ a ∷ []) ≡ answer_lines of_items qs answers ++ question_lines of_items q a
answer_lines-more of_items [] [] q a h = append-nil (question_lines of_items q a)
answer_lines-more of_items [] (b ∷ bs) q a h = absurd (cc)
answer_lines-more of_items (p ∷ ps) [] q a h = absurd (cc)
answer_lines-more of_items (p ∷ ps) (b ∷ bs) q a h =
    ap (λ (xs : List ℕ). question_lines of_items p b ++ xs) (answer_lines-more of_items ps bs q a (cc))
    ∙ sym (append_assoc (question_lines of_items p b) (answer_lines of_items ps bs) (question_lines of_items q a))

-- a check of random probing, from its parts
pub leaking-done : (s : Settings) (g : Circuit) (kind : Rp) → asked_by s.task ≡ Leaking kind → (events : List Event) (of_items : List Item) (item_count count all : ℕ)
    (answers : List QuestionAnswer) (before text : List ℕ) → refusal kind g s.t ≡ None → events ≡ events_of kind g s.t → of_items ≡ wire_items s.wires g →
    item_count ≡ length of_items → count ≡ length (tuples item_count s.size) → all ≡ count * length events → all ≤ s.budget →
    before ≡ head s.task s.t g item_count s.size count ++ wires_line s.wires (total_weight of_items) → AreAnswersTo s g events answers →
    text ≡ before ++ answer_lines of_items (event_questions s events) answers ++ greatest_lines (event_questions s events) answers →
    IsFeasible s g × AnswersUntallied s g answers Listed text
leaking-done s g kind asks events of_items item_count count all answers before text none are of_are item_count_is count_is all_is within head_is right written =
    let items_are : of_items ≡ items s g = of_are ∙ sym (items-leaking s g kind asks) in
    let number : item_count ≡ length (items s g) = item_count_is ∙ ap length items_are in
    let counted : count ≡ tuple_count s g = count_is ∙ ap (λ (n : ℕ). length (tuples n s.size)) number in
    let work_is : work s g ≡ all =
    work-leaking s g kind asks ∙ mul_comm (event_count kind g s.t) (tuple_count s g)
    ∙ ap (λ (n : ℕ). n * event_count kind g s.t) (sym counted) ∙ ap (λ (xs : List Event). count * length xs) (sym are) ∙ sym all_is in
    let P : List Event → Type 0 = λ es. AreAnswersTo s g es answers in
    let above : before ≡ head_lines s g ++ leak_lines (Leaking kind) s g = head_is
    ∙ ap (λ (n : ℕ). head s.task s.t g n s.size count ++ wires_line s.wires (total_weight of_items)) number
    ∙ ap (λ (n : ℕ). head s.task s.t g (length (items s g)) s.size n ++ wires_line s.wires (total_weight of_items)) counted
    ∙ ap (λ (of : List Item). head_lines s g ++ wires_line s.wires (total_weight of)) of_are in (
      record { suited = IsSuited-leaking s g kind asks none; within = omega arith },
      AnswersUntallied-listed s g kind asks answers text (subst P are right)
          (written
          ∙ ap (λ (xs : List ℕ). xs ++ answer_lines of_items (event_questions s events) answers ++ greatest_lines (event_questions s events) answers) above
          ∙ ap (λ (of : List Item). head_lines s g ++ leak_lines (Leaking kind) s g ++ answer_lines of (event_questions s events) answers ++ greatest_lines (event_questions s events) answers) items_are
          ∙ ap (λ (es : List Event). head_lines s g ++ leak_lines (Leaking kind) s g ++ answer_lines (items s g) (event_questions s es) answers ++ greatest_lines (event_questions s es) answers) are),
    )

-- a check of random probing that is over its budget
pub leaking-over : (s : Settings) (g : Circuit) (kind : Rp) → asked_by s.task ≡ Leaking kind → (events : List Event) (of_items : List Item) (item_count count all : ℕ) →
    refusal kind g s.t ≡ None → events ≡ events_of kind g s.t → of_items ≡ wire_items s.wires g → item_count ≡ length of_items →
    count ≡ length (tuples item_count s.size) → all ≡ count * length events → s.budget < all → IsOverBudget s g all
leaking-over s g kind asks events of_items item_count count all none are of_are item_count_is count_is all_is over =
    let number : item_count ≡ length (items s g) = item_count_is ∙ ap length (of_are ∙ sym (items-leaking s g kind asks)) in
    let counted : count ≡ tuple_count s g = count_is ∙ ap (λ (n : ℕ). length (tuples n s.size)) number in
    record {
      suited = IsSuited-leaking s g kind asks none;
      counted = all_is ∙ ap (λ (xs : List Event). count * length xs) are ∙ ap (λ (n : ℕ). n * event_count kind g s.t) counted
          ∙ mul_comm (tuple_count s g) (event_count kind g s.t) ∙ sym (work-leaking s g kind asks);
      over = over;
    }

-- the tuples of right answers are of the check's items
pub IsOfItems-answers : (s : Settings) (g : Circuit) (of_items : List Item) → of_items ≡ items s g → (qs : List Question) (answers : List QuestionAnswer) →
    AllZip (IsAnswerTo s g) qs answers → All (IsOfItems of_items) answers
IsOfItems-answers s g of_items e [] [] h = All-nil (IsOfItems of_items)
IsOfItems-answers s g of_items e [] (a ∷ more) h = absurd h
IsOfItems-answers s g of_items e (q ∷ qs) [] h = absurd h
IsOfItems-answers s g of_items e (q ∷ qs) (a ∷ more) h =
    let right = h.0 in
    let P : List Item → Type 0 = λ of. IsAnswer (FailsIn g q) (length of) s.size a.failing in
    All-cons (IsOfItems of_items) a more
    (AreAmong-from_answer (FailsIn g q) of_items s.size a.failing (subst P (sym e) right.minimal))
    (IsOfItems-answers s g of_items e qs more h.1)

-- a check of random probing, from what each call was given and left
pub leaking-answered : (s : Settings) (g : Circuit) (rp : Rp) → asked_by s.task ≡ Leaking rp →
    (events events' events'' : List code.Event) (of_items items' items'' : List code_item.Item) (answers answers' answers'' : List code_answer.QuestionAnswer)
    (item_count event_total count : ℕ) (before listed text : List ℕ) →
    events' ≡ events → events'' ≡ events → items' ≡ of_items → items'' ≡ of_items → answers' ≡ answers → answers'' ≡ answers →
    refusal rp g s.t ≡ None → map event_of events ≡ events_of rp g s.t → map item_of of_items ≡ wire_items s.wires g →
    item_count ≡ length of_items → event_total ≡ length events → count ≡ length (tuples item_count s.size) → count * event_total ≤ s.budget →
    AreAnswersTo s g (map event_of events) (map answer_of answers) →
    before ≡ head s.task s.t g (length items') s.size count ++ wires_line s.wires (total_weight (map item_of items')) →
    listed ≡ before ++ answer_lines (map item_of items'') (event_questions s (map event_of events')) (map answer_of answers') →
    text ≡ listed ++ greatest_lines (event_questions s (map event_of events'')) (map answer_of answers'') →
    IsFeasible s g × AnswersUntallied s g (map answer_of answers) Listed text
leaking-answered s g rp asks events events' events'' of_items items' items'' answers answers' answers'' item_count event_total count before listed text
    e e' i i' a a' none are of_are item_count_is event_total_is count_is within right head_is listed_is text_is =
    let counted : item_count ≡ length (map item_of of_items) = item_count_is ∙ sym (length-map of_items item_of) in
    let all_is : count * event_total ≡ count * length (map event_of events) =
    ap (λ (n : ℕ). count * n) (event_total_is ∙ sym (length-map events event_of)) in
    let lines : List code_item.Item → List code.Event → List code_answer.QuestionAnswer → List ℕ =
    λ of es bs. answer_lines (map item_of of) (event_questions s (map event_of es)) (map answer_of bs) in
    let greatest : List code.Event → List code_answer.QuestionAnswer → List ℕ = λ es bs. greatest_lines (event_questions s (map event_of es)) (map answer_of bs) in
    let top : List code_item.Item → ℕ → List ℕ = λ of n. head s.task s.t g n s.size count ++ wires_line s.wires (total_weight (map item_of of)) in
    let written : text ≡ before ++ lines of_items events answers ++ greatest events answers = text_is
    ∙ ap (λ (xs : List ℕ). xs ++ greatest events'' answers'') listed_is
    ∙ ap (λ (of : List code_item.Item). before ++ lines of events' answers' ++ greatest events'' answers'') i'
    ∙ ap (λ (es : List code.Event). before ++ lines of_items es answers' ++ greatest events'' answers'') e
    ∙ ap (λ (bs : List code_answer.QuestionAnswer). before ++ lines of_items events bs ++ greatest events'' answers'') a
    ∙ ap (λ (es : List code.Event). before ++ lines of_items events answers ++ greatest es answers'') e'
    ∙ ap (λ (bs : List code_answer.QuestionAnswer). before ++ lines of_items events answers ++ greatest events bs) a' in
    let above : before ≡ top of_items item_count = head_is ∙ ap (λ (of : List code_item.Item). top of (length of)) i ∙ ap (top of_items) (sym item_count_is) in
    leaking-done s g rp asks (map event_of events) (map item_of of_items) item_count count (count * event_total) (map answer_of answers) before text none are of_are
    counted count_is all_is within above right written
