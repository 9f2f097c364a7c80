-- A valid check completes, unless reading, writing or memory fails.
use Rattle.std.proofs.Common.{◌≡◌, ◌⊎◌, ℕ, Bool, true, false, if◌then◌else◌, ◌∙◌, List, length, Option, Some, None, Ok, Err, ap, subst, sym, arith, refl, inl, inr}
use Rattle.std.specs.Prelude.{Result, IfSome}
use Rattle.mask_bytes.specs.Flow.{IsLonger}
use Rattle.gadget_model.specs.Circuit.{Circuit}
use Rattle.gadget_model.specs.Classes.{IsInClass}
use Rattle.gadget_text.specs.Limits.{most_file_bytes}
use Rattle.gadget_text.specs.declared.file_error.FileError.{FileError}
use Rattle.gadget_tree.specs.File.{FileSays}
use Rattle.gadget_tree.proofs.OneReading.{one_reading}
use Rattle.mask_terms.specs.Tasks.{is_demo}
use Rattle.mask_terms.specs.declared.task.Task.{Task}
use Rattle.mask_terms.specs.declared.task.Task.TheVariants as tasks
use Rattle.notions.specs.declared.notion.Notion.TheVariants as notions
use Rattle.report.specs.declared.status.NotFor.{NotFor}
use Rattle.report.specs.declared.status.NotFor.TheVariants.{SeveralOutputs, ManyInputs, OrderTooLarge, ManyEvents}
use Rattle.report.specs.declared.status.Status.{Status}
use Rattle.report.specs.declared.status.Status.TheVariants as statuses
use Rattle.demo_laws.specs.Demos.{IsDemoFile}
use Rattle.mask_words.specs.declared.answer.Settings.{Settings}
use Rattle.mask_words.specs.declared.answer.WordsError.{WordsError}
use Rattle.mask_words.specs.declared.answer.WordsError.TheVariants as refused
use Rattle.mask_check.specs.declared.asked.Asked.{Asked}
use Rattle.mask_check.specs.declared.asked.Asked.TheVariants.{Notion, Leaking}
use Rattle.mask_check.specs.Causes.{status_of_words}
use Rattle.mask_check.specs.Demonstrations.{check_by, check_of, made_by, made_file}
use Rattle.mask_check.specs.Questions.{asked_by, IsUnsuited, IsUnsuitedBy, QuestionAnswer}
use Rattle.mask_check.specs.Report.{are_empty, ending}
use Rattle.mask_check.specs.Ends.{words_ask, Run, ReadsAll, Reads, ReadsNothing, HasFileBy, AsksToRead, IsOverBudget}
use Rattle.mask_check.specs.Ends.{Completes, Ends, IsValid, IsValidDemo, IsDoneIfMemoryLasts}
use Rattle.mask_check.proofs.AfterReading.{ok_err, no_refusal}

ok_ok : {A B : Type 0} (a b : A) (r : Result A B) → r ≡ Ok a → r ≡ Ok b → a ≡ b
ok_ok a b r e f = cc

err_err : {A B : Type 0} (a b : B) (r : Result A B) → r ≡ Err a → r ≡ Err b → a ≡ b
err_err a b r e f = cc

-- where the words are refused, the check ends with that, or for want of memory
pub words-from_ends : {S K : Type 0} (words : List (List ℕ)) (run : Run S K) (error : WordsError) → words_ask words ≡ Err error → (status : Status) → Ends words run status →
    (status ≡ status_of_words error) ⊎ (status ≡ statuses.OutOfMemory)
words-from_ends words run error wrong statuses.Yes h = let read = h.1 in absurd (ok_err read.settings error (words_ask words) read.accepted.asked wrong)
words-from_ends words run error wrong statuses.No h = let read = h.1 in absurd (ok_err read.settings error (words_ask words) read.accepted.asked wrong)
words-from_ends words run error wrong statuses.Listed h = let read = h.1 in absurd (ok_err read.settings error (words_ask words) read.accepted.asked wrong)
words-from_ends words run error wrong (statuses.Usage kind) h = inl (ap status_of_words (err_err (refused.Usage kind) error (words_ask words) h.0.0 wrong))
words-from_ends words run error wrong statuses.SizeNotUsed h = inl (ap status_of_words (err_err refused.SizeNotUsed error (words_ask words) h.0.0 wrong))
words-from_ends words run error wrong (statuses.File e) h = let asks = h.0.asked in absurd (ok_err asks.0 error (words_ask words) asks.1 wrong)
words-from_ends words run error wrong (statuses.Wires e) h = let asks = h.0.asked in absurd (ok_err asks.0 error (words_ask words) asks.1 wrong)
words-from_ends words run error wrong statuses.TooLong h = absurd (ok_err h.0.0 error (words_ask words) h.0.1 wrong)
words-from_ends words run error wrong (statuses.NotForGadget why) h = let read = h.0 in absurd (ok_err read.settings error (words_ask words) read.accepted.asked wrong)
words-from_ends words run error wrong (statuses.Budget count) h = let read = h.0 in absurd (ok_err read.settings error (words_ask words) read.accepted.asked wrong)
words-from_ends words run error wrong statuses.ReadFault h = absurd (ok_err h.0.0 error (words_ask words) h.0.1 wrong)
words-from_ends words run error wrong statuses.WriteFault h = let read = h.1.2 in absurd (ok_err read.settings error (words_ask words) read.accepted.asked wrong)
words-from_ends words run error wrong statuses.OutOfMemory h = inr refl

-- a check of a file that is read
module _ {S K : Type 0} (words : List (List ℕ)) (run : Run S K) (valid : IsValid words run) where
  -- what is said of the file that was read is that it is the gadget's
  same : (read : List ℕ) (r : Result Circuit FileError) → ReadsAll run.reading read → FileSays read r → Ok valid.gadget ≡ r
  same read r reads says =
      let is : read ≡ valid.bytes = subst (λ (o : Option (List ℕ)). IfSome o (λ left. read ≡ left)) valid.told reads.whole in
      one_reading valid.bytes (Ok valid.gadget) r valid.accepted.file (subst (λ (bytes : List ℕ). FileSays bytes r) is says)

  -- the check and the gadget that were read are those that are valid
  same_check : (Holds : Settings → Circuit → Type 0) → Reads words run.reading Holds → Holds (check_of valid.settings) valid.gadget
  same_check Holds h =
      let accepted = h.accepted in
      let is_s = ok_ok h.settings valid.settings (words_ask words) accepted.asked valid.accepted.asked in
      let none : made_file h.settings ≡ None = ap made_file is_s ∙ valid.made in
      let read : ReadsAll run.reading h.bytes = subst (λ (o : Option (List ℕ)). HasFileBy o run.reading h.bytes) none h.file in
      let is_g = ok_ok h.gadget valid.gadget (Ok h.gadget) refl (sym (same h.bytes (Ok h.gadget) read accepted.file)) in
      subst (λ (s : Settings). Holds (check_of s) valid.gadget) is_s (subst (λ (g : Circuit). Holds (check_of h.settings) g) is_g h.holds)

  pub IsDoneIfMemoryLasts-from_ends : (status : Status) → Ends words run status → IsDoneIfMemoryLasts status
  IsDoneIfMemoryLasts-from_ends statuses.Yes h = inl refl
  IsDoneIfMemoryLasts-from_ends statuses.No h = inr (inl refl)
  IsDoneIfMemoryLasts-from_ends statuses.Listed h = inr (inr (inl refl))
  IsDoneIfMemoryLasts-from_ends (statuses.Usage kind) h =
      absurd (ok_err valid.settings (refused.Usage kind) (words_ask words) valid.accepted.asked h.0.0)
  IsDoneIfMemoryLasts-from_ends statuses.SizeNotUsed h =
      absurd (ok_err valid.settings refused.SizeNotUsed (words_ask words) valid.accepted.asked h.0.0)
  IsDoneIfMemoryLasts-from_ends (statuses.File error) h =
      let file = h.0 in
      absurd (ok_err valid.gadget error (Ok valid.gadget) refl (same file.bytes (Err error) file.read file.says))
  IsDoneIfMemoryLasts-from_ends (statuses.Wires error) h =
      let unfit = h.0 in
      let is = ok_ok valid.gadget unfit.gadget (Ok valid.gadget) refl (same unfit.bytes (Ok unfit.gadget) unfit.read unfit.says) in
      absurd (no_refusal unfit.gadget error (subst IsInClass is valid.accepted.in_class) unfit.other unfit.refused)
  IsDoneIfMemoryLasts-from_ends statuses.TooLong h =
      let longer = subst (λ (o : Option (List ℕ)). IsLonger o most_file_bytes) valid.told h.1.0 in
      let few = valid.few in
      absurd (omega arith)
  IsDoneIfMemoryLasts-from_ends (statuses.NotForGadget why) h =
      absurd (valid.feasible.suited why (same_check (λ s g. IsUnsuited s g why) h.0))
  IsDoneIfMemoryLasts-from_ends (statuses.Budget count) h =
      let over = same_check (λ s g. IsOverBudget s g count) h.0 in
      let counted = over.counted in
      let past = over.over in
      let within = valid.feasible.within in
      absurd (omega arith)
  IsDoneIfMemoryLasts-from_ends statuses.ReadFault h = absurd (valid.reads h.1)
  IsDoneIfMemoryLasts-from_ends statuses.WriteFault h = absurd (valid.writes h.0)
  IsDoneIfMemoryLasts-from_ends statuses.OutOfMemory h = inr (inr (inr refl))

some_none : (made : List ℕ) (o : Option (List ℕ)) → o ≡ Some made → o ≡ None → ⊥
some_none made o e f = cc

-- only demonstrations make a file
is_demo-from_made : (task : Task) (shares : ℕ) (made : List ℕ) → made_by task shares ≡ Some made → is_demo task ≡ true
is_demo-from_made tasks.Demo shares made e = refl
is_demo-from_made tasks.DemoRefresh shares made e = refl
is_demo-from_made tasks.Ni shares made e = absurd (cc)
is_demo-from_made tasks.Tni shares made e = absurd (cc)
is_demo-from_made tasks.Sni shares made e = absurd (cc)
is_demo-from_made tasks.Pini shares made e = absurd (cc)
is_demo-from_made tasks.Rpc shares made e = absurd (cc)
is_demo-from_made tasks.Rpe shares made e = absurd (cc)

-- and check it for strong non-interference
pub asked_by-demo : (s : Settings) → is_demo s.task ≡ true → asked_by (check_of s).task ≡ Notion notions.Sni
asked_by-demo s e =
    let P : Bool → Type 0 = λ demo. let c = check_by demo s in asked_by c.task ≡ Notion notions.Sni in
    subst P (sym e) refl

-- the budget is that of the settings
check_budget-by : (s : Settings) (demo : Bool) → (check_by demo s).budget ≡ s.budget
check_budget-by s true = refl
check_budget-by s false = refl

check_budget : (s : Settings) → (check_of s).budget ≡ s.budget
check_budget s = check_budget-by s (is_demo s.task)

suited_by : (s : Settings) (g : Circuit) (why : NotFor) → length g.outputs ≡ 1 → IsUnsuitedBy (Notion notions.Sni) s g why → ⊥
suited_by s g SeveralOutputs one h = let more = h.1 in omega arith
suited_by s g ManyInputs one h = h
suited_by s g OrderTooLarge one h = h
suited_by s g (ManyEvents count) one h = h

-- a demonstration
module _ {S K : Type 0} (words : List (List ℕ)) (run : Run S K) (valid : IsValidDemo words run) (demo : IsDemoFile valid.made) where
  -- the words don't ask to read
  reads_none : AsksToRead words → ⊥
  reads_none asks =
      let is = ok_ok asks.0 valid.settings (words_ask words) asks.1 valid.asked in
      some_none valid.made (made_file valid.settings) valid.makes (ap made_file (sym is) ∙ asks.2)

  -- the check is that of the file that is made
  demo_check : (Holds : Settings → Circuit → Type 0) → Reads words run.reading Holds → (g : Circuit) × FileSays valid.made (Ok g) × Holds (check_of valid.settings) g
  demo_check Holds h =
      let accepted = h.accepted in
      let is_s = ok_ok h.settings valid.settings (words_ask words) accepted.asked valid.asked in
      let some : made_file h.settings ≡ Some valid.made = ap made_file is_s ∙ valid.makes in
      let made : (h.bytes ≡ valid.made) × ReadsNothing run.reading = subst (λ (o : Option (List ℕ)). HasFileBy o run.reading h.bytes) some h.file in (
        h.gadget,
        subst (λ (b : List ℕ). FileSays b (Ok h.gadget)) made.0 accepted.file,
        subst (λ (s : Settings). Holds (check_of s) h.gadget) is_s h.holds,
      )

  is_demo_gadget : (g : Circuit) → FileSays valid.made (Ok g) → demo.gadget ≡ g
  is_demo_gadget g says = ok_ok demo.gadget g (Ok demo.gadget) refl (sym (one_reading valid.made (Ok g) (Ok demo.gadget) says demo.says))

  demo_suited : (g : Circuit) (why : NotFor) → FileSays valid.made (Ok g) → IsUnsuited (check_of valid.settings) g why → ⊥
  demo_suited g why says un =
      let settings = valid.settings in
      let one : length g.outputs ≡ 1 = ap (λ (c : Circuit). length c.outputs) (sym (is_demo_gadget g says)) ∙ demo.one_output in
      let asks = asked_by-demo settings (is_demo-from_made settings.task settings.t valid.made valid.makes) in
      suited_by (check_of settings) g why one (subst (λ (a : Asked). IsUnsuitedBy a (check_of settings) g why) asks un)

  pub IsDoneIfMemoryLasts-from_demo : (status : Status) → Ends words run status → IsDoneIfMemoryLasts status
  IsDoneIfMemoryLasts-from_demo statuses.Yes h = inl refl
  IsDoneIfMemoryLasts-from_demo statuses.No h = inr (inl refl)
  IsDoneIfMemoryLasts-from_demo statuses.Listed h = inr (inr (inl refl))
  IsDoneIfMemoryLasts-from_demo (statuses.Usage kind) h = absurd (ok_err valid.settings (refused.Usage kind) (words_ask words) valid.asked h.0.0)
  IsDoneIfMemoryLasts-from_demo statuses.SizeNotUsed h = absurd (ok_err valid.settings refused.SizeNotUsed (words_ask words) valid.asked h.0.0)
  IsDoneIfMemoryLasts-from_demo (statuses.File error) h = absurd (reads_none h.0.asked)
  IsDoneIfMemoryLasts-from_demo (statuses.Wires error) h = absurd (reads_none h.0.asked)
  IsDoneIfMemoryLasts-from_demo statuses.TooLong h = absurd (reads_none h.0)
  IsDoneIfMemoryLasts-from_demo (statuses.NotForGadget why) h =
      let check = demo_check (λ s g. IsUnsuited s g why) h.0 in
      absurd (demo_suited check.0 why check.1 check.2)
  IsDoneIfMemoryLasts-from_demo (statuses.Budget count) h =
      let check = demo_check (λ s g. IsOverBudget s g count) h.0 in
      let over = check.2 in
      let counted = over.counted in
      let past = over.over in
      let within = valid.within check.0 check.1 in
      let same_budget : (check_of valid.settings).budget ≡ valid.settings.budget = check_budget valid.settings in
      absurd (omega arith)
  IsDoneIfMemoryLasts-from_demo statuses.ReadFault h = absurd (reads_none h.0)
  IsDoneIfMemoryLasts-from_demo statuses.WriteFault h = absurd (valid.writes h.0)
  IsDoneIfMemoryLasts-from_demo statuses.OutOfMemory h = inr (inr (inr refl))

-- a check that ends with a report is answered yes, no or listed
verdict_cases : (secure : Bool) → ((if secure then statuses.Yes else statuses.No) ≡ statuses.Yes) ⊎ ((if secure then statuses.Yes else statuses.No) ≡ statuses.No)
verdict_cases true = inl refl
verdict_cases false = inr refl

ending_cases : (asks : Asked) (answers : List QuestionAnswer) →
    (ending asks answers ≡ statuses.Yes) ⊎ ((ending asks answers ≡ statuses.No) ⊎ (ending asks answers ≡ statuses.Listed))
ending_cases (Notion n) answers = elim (verdict_cases (are_empty answers)) [ inl e ↦ inl e | inr e ↦ inr (inl e) ]
ending_cases (Leaking kind) answers = inr (inr refl)

-- what is written ends the check as its status says
pub Ends-completed : {S K : Type 0} (words : List (List ℕ)) (run : Run S K) (status : Status) → Completes words run status → Ends words run status
Ends-completed words run status h =
    let read = h.1 in
    let answered = read.holds.1 in
    let P : Status → Type 0 = λ st. Completes words run st → Ends words run st in
    let check = check_of read.settings in
    elim (ending_cases (asked_by check.task) answered.answers) [
      | inl e ↦ subst P (sym (answered.ends ∙ e)) (λ k. k) h
      | inr (inl e) ↦ subst P (sym (answered.ends ∙ e)) (λ k. k) h
      | inr (inr e) ↦ subst P (sym (answered.ends ∙ e)) (λ k. k) h
    ]
