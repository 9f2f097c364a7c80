-- The greatest numbers of lists, taken one list after the other.
use Rattle.std.proofs.Common.{◌≡◌, ◌∙◌, ◌⊎◌, inl, inr, ℕ, List, [], ◌∷◌, ◌++◌, map, ap, sym, refl, max, Option, Some, None, Bool, true, if◌then◌else◌, append-nil, arith}
use Rattle.wire_table.specs.declared.which.Which.{Which}
use Rattle.wire_table.specs.declared.which.Which.TheVariants.{Any, Input, Both}
use Rattle.wire_table.specs.contracts.which.WhichPartialEq.TheImpl.{eq-value}
use Rattle.rp_events.specs.declared.event.Event as of_code
use Rattle.rp_events.specs.Questions.{event_of}
use Rattle.mask_words.specs.declared.answer.Settings.{Settings}
use Rattle.mask_check.specs.declared.answer.QuestionAnswer as code
use Rattle.mask_check.specs.Questions.{Question, QuestionAnswer}
use Rattle.mask_check.specs.Report.{asks_of, coefficients_for, greater_each, greatest, greatest_of, same_which}
use Rattle.mask_check.specs.Decisions.{answer_of, event_question, event_questions, greatest_with}

max-assoc : (a b c : ℕ) → max a (max b c) ≡ max (max a b) c
max-assoc a b c = omega arith

-- the order in which the greater numbers are taken means nothing
greater_each-assoc : (xs ys zs : List ℕ) → greater_each xs (greater_each ys zs) ≡ greater_each (greater_each xs ys) zs
greater_each-assoc [] ys zs = refl
greater_each-assoc (x ∷ xs) [] zs = refl
greater_each-assoc (x ∷ xs) (y ∷ ys) [] = refl
greater_each-assoc (x ∷ xs) (y ∷ ys) (z ∷ zs) =
    ap (λ (n : ℕ). n ∷ greater_each xs (greater_each ys zs)) (max-assoc x y z) ∙ ap (λ (ns : List ℕ). max (max x y) z ∷ ns) (greater_each-assoc xs ys zs)

-- the first two lists may be taken together
greatest-together : (xs ys : List ℕ) (rest : List (List ℕ)) → greatest (greater_each xs ys ∷ rest) ≡ greatest (xs ∷ ys ∷ rest)
greatest-together xs ys [] = refl
greatest-together xs ys (zs ∷ rest) = sym (greater_each-assoc xs ys (greatest (zs ∷ rest)))

-- the greatest numbers of those found and of the lists still to come
abbrev pub greatest_from : Option (List ℕ) → List (List ℕ) → Option (List ℕ)
greatest_from None rest = greatest_of rest
greatest_from (Some found) rest = Some (greatest (found ∷ rest))

-- one list more
pub greatest_from-more : (found : Option (List ℕ)) (numbers : List ℕ) (rest : List (List ℕ)) →
    greatest_from (Some (greatest_with found numbers)) rest ≡ greatest_from found (numbers ∷ rest)
greatest_from-more None numbers rest = refl
greatest_from-more (Some found) numbers rest = ap (λ (ns : List ℕ). Some ns) (greatest-together found numbers rest)

-- no more lists
pub greatest_from-end : (found : Option (List ℕ)) → greatest_from found [] ≡ found
greatest_from-end None = refl
greatest_from-end (Some found) = refl

-- the derived equality tells whether two events ask about the same inputs
pub same_which-is : (a b : Which) → eq-value.it a b ≡ same_which a b
same_which-is Any Any = refl
same_which-is Any (Input j) = refl
same_which-is Any Both = refl
same_which-is (Input k) Any = refl
same_which-is (Input k) (Input j) = refl
same_which-is (Input k) Both = refl
same_which-is Both Any = refl
same_which-is Both (Input j) = refl
same_which-is Both Both = refl

-- the coefficients of a question that is asked for stand before the others
coefficients_for-asked : (which : Which) (question : Question) (answer : QuestionAnswer) (questions : List Question) (answers : List QuestionAnswer) →
    asks_of which question ≡ true →
    coefficients_for which (question ∷ questions) (answer ∷ answers) ≡ answer.coefficients ∷ coefficients_for which questions answers
coefficients_for-asked which question answer questions answers asked =
    ap (λ (b : Bool). if b then answer.coefficients ∷ coefficients_for which questions answers else coefficients_for which questions answers) asked

-- the events still to come begin with one that asks of these inputs
pub greatest_from-event : (which : Which) (s : Settings) (event : of_code.Event) (answer : code.QuestionAnswer)
    (events all_events : List of_code.Event) (answers all_answers : List code.QuestionAnswer)
    (found : Option (List ℕ)) (numbers coefficients : List ℕ) (whole : Option (List ℕ)) →
    same_which which event.which ≡ true → coefficients ≡ answer.coefficients.items → numbers ≡ greatest_with found coefficients →
    all_events ≡ event ∷ events → all_answers ≡ answer ∷ answers →
    greatest_from found (coefficients_for which (event_questions s (map event_of all_events)) (map answer_of all_answers)) ≡ whole →
    greatest_from (Some numbers) (coefficients_for which (event_questions s (map event_of events)) (map answer_of answers)) ≡ whole
greatest_from-event which s event answer events all_events answers all_answers found numbers coefficients whole asked same with_these first second before =
    let rest = coefficients_for which (event_questions s (map event_of events)) (map answer_of answers) in
    ap (λ (ns : List ℕ). greatest_from (Some ns) rest) (with_these ∙ ap (greatest_with found) same)
    ∙ greatest_from-more found answer.coefficients.items rest
    ∙ ap (greatest_from found) (sym (coefficients_for-asked which (event_question s (event_of event)) (answer_of answer)
    (event_questions s (map event_of events)) (map answer_of answers) asked))
    ∙ ap (λ (es : List of_code.Event). greatest_from found (coefficients_for which (event_questions s (map event_of es)) (map answer_of (answer ∷ answers)))) (sym first)
    ∙ ap (λ (as_ : List code.QuestionAnswer). greatest_from found (coefficients_for which (event_questions s (map event_of all_events)) (map answer_of as_))) (sym second)
    ∙ before

coefficients_for-no_answers : (which : Which) (questions : List Question) → coefficients_for which questions [] ≡ []
coefficients_for-no_answers which [] = refl
coefficients_for-no_answers which (question ∷ questions) = refl

-- there are no more events, or no more answers
coefficients_for-done : (which : Which) (s : Settings) (events : List of_code.Event) (answers : List code.QuestionAnswer) →
    (events ≡ []) ⊎ (answers ≡ []) → coefficients_for which (event_questions s (map event_of events)) (map answer_of answers) ≡ []
coefficients_for-done which s events answers (inl none) =
    ap (λ (es : List of_code.Event). coefficients_for which (event_questions s (map event_of es)) (map answer_of answers)) none
coefficients_for-done which s events answers (inr none) =
    ap (λ (as_ : List code.QuestionAnswer). coefficients_for which (event_questions s (map event_of events)) (map answer_of as_)) none
    ∙ coefficients_for-no_answers which (event_questions s (map event_of events))

-- nothing is still to come
pub greatest_from-done : (which : Which) (s : Settings) (events : List of_code.Event) (answers : List code.QuestionAnswer) (found whole : Option (List ℕ)) →
    (events ≡ []) ⊎ (answers ≡ []) →
    greatest_from found (coefficients_for which (event_questions s (map event_of events)) (map answer_of answers)) ≡ whole → found ≡ whole
greatest_from-done which s events answers found whole none before =
    sym (greatest_from-end found) ∙ ap (greatest_from found) (sym (coefficients_for-done which s events answers none)) ∙ before

greater_each-empty : (xs ys : List ℕ) → (xs ≡ []) ⊎ (ys ≡ []) → greater_each xs ys ≡ []
greater_each-empty xs ys (inl none) = ap (λ (ns : List ℕ). greater_each ns ys) none
greater_each-empty [] ys (inr none) = refl
greater_each-empty (x ∷ xs) ys (inr none) = ap (greater_each (x ∷ xs)) none

-- one of the lists is at its end
pub greater_each-done : (greater xs ys whole : List ℕ) → (xs ≡ []) ⊎ (ys ≡ []) → greater ++ greater_each xs ys ≡ whole → greater ≡ whole
greater_each-done greater xs ys whole none before =
    sym (append-nil greater) ∙ ap (λ (ns : List ℕ). greater ++ ns) (sym (greater_each-empty xs ys none)) ∙ before
