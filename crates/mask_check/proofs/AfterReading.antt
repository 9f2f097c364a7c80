-- How a check ends once it has its file.
use Rattle.std.proofs.Common.{◌≡◌, ◌⊎◌, ℕ, ◌≤◌, List, length, Option, Some, None, Ok, Err, refl, inl, inr, subst, sym}
use Rattle.std.specs.Prelude.{◌≢◌, Result}
use Rattle.gadget_model.specs.Circuit.{Circuit}
use Rattle.gadget_model.specs.Classes.{IsInClass, Fault, too_wide, random_product, degree, IsFirstFault}
use Rattle.gadget_tree.specs.File.{FileSays}
use Rattle.gadget_tree.proofs.OneReading.{one_reading}
use Rattle.gadget_text.specs.Limits.{most_file_bytes}
use Rattle.gadget_text.specs.declared.file_error.FileError.{FileError}
use Rattle.gadget_text.specs.declared.file_error.FileError.TheVariants as files
use Rattle.wire_table.specs.Refusals.{Refuses}
use Rattle.wire_table.specs.declared.wire_error.WireError.{WireError}
use Rattle.wire_table.specs.declared.wire_error.WireError.TheVariants as wires
use Rattle.report.specs.declared.status.Status.{Status}
use Rattle.report.specs.declared.status.Status.TheVariants as statuses
use Rattle.report.specs.Causes.{status_of_file, status_of_wires}
use Rattle.demo_laws.specs.Demos.{IsDemoFile}
use Rattle.mask_words.specs.declared.answer.Settings.{Settings}
use Rattle.mask_check.specs.Demonstrations.{check_of, made_file}
use Rattle.mask_check.specs.Questions.{IsUnsuited}
use Rattle.mask_check.specs.Tallying.{AreKept}
use Rattle.mask_check.specs.Decisions.{Declines, LacksFile, ReadsLittleOf}
use Rattle.mask_check.specs.Ends.{words_ask, Run, Reading, ReadsAll, Reads, ReadsLittle, ReadsNothing, HasFile, HasFileBy, IsAccepted, IsFeasible, IsOverBudget}
use Rattle.mask_check.specs.Ends.{FeedsAllOrNone, FeedsAnswers, WritesNothing, Ends}

-- a gadget in the class has no variable with a fault
no_fault : (g : Circuit) (v : ℕ) (fault : Fault) → IsInClass g → IsFirstFault g v fault → ⊥
no_fault g v too_wide fit first = (fit v first.exists).0 first.has
no_fault g v random_product fit first = (fit v first.exists).1 first.has.1
no_fault g v degree fit first = (fit v first.exists).2 first.has.2

pub no_refusal : (g : Circuit) (error : WireError) → IsInClass g → error ≢ wires.OutOfMemory → Refuses g error → ⊥
no_refusal g (wires.TooWide var line) fit other h = no_fault g var too_wide fit h.0
no_refusal g (wires.RandomProduct var line) fit other h = no_fault g var random_product fit h.0
no_refusal g (wires.Degree var line) fit other h = no_fault g var degree fit h.0
no_refusal g wires.OutOfMemory fit other h = other refl

pub ok_err : {A B : Type 0} (a : A) (b : B) (r : Result A B) → r ≡ Ok a → r ≡ Err b → ⊥
ok_err a b r e f = cc

-- the file of a demonstration is accepted
module _ (made bytes : List ℕ) (demo : IsDemoFile made) (is : bytes ≡ made) where
  same : (r : Result Circuit FileError) → FileSays bytes r → Ok demo.gadget ≡ r
  same r says = one_reading made (Ok demo.gadget) r demo.says (subst (λ (b : List ℕ). FileSays b r) is says)

  pub no_offence : (error : FileError) → FileSays bytes (Err error) → ⊥
  no_offence error says = ok_err demo.gadget error (Ok demo.gadget) refl (same (Err error) says)

  pub no_misfit : (g : Circuit) (error : WireError) → error ≢ wires.OutOfMemory → FileSays bytes (Ok g) → Refuses g error → ⊥
  no_misfit g error other says refused =
      let e : demo.gadget ≡ g = let h = same (Ok g) says in cc in
      no_refusal g error (subst IsInClass e demo.in_class) other refused

-- whether a check makes its file
made_cases : (o : Option (List ℕ)) → (o ≡ None) ⊎ ((made : List ℕ) × (o ≡ Some made))
made_cases None = inl refl
made_cases (Some made) = inr (made, refl)

-- a file has few bytes
pub few_bytes : {S : Type 0} (s : Settings) (reading : Reading S) (bytes : List ℕ) → HasFile s reading bytes → ((made : List ℕ) → made_file s ≡ Some made → IsDemoFile made) →
    length bytes ≤ most_file_bytes
few_bytes s reading bytes file demo = elim (made_cases (made_file s)) [
  | inl none ↦
      let read : ReadsAll reading bytes = subst (λ (o : Option (List ℕ)). HasFileBy o reading bytes) none file in read.few
  | inr (made, some) ↦
      let is : (bytes ≡ made) × ReadsNothing reading = subst (λ (o : Option (List ℕ)). HasFileBy o reading bytes) some file in
      let demonstration = demo made some in
      subst (λ (b : List ℕ). length b ≤ most_file_bytes) (sym is.0) demonstration.few_bytes
]

-- there is no file
module _ {S K : Type 0} (words : List (List ℕ)) (run : Run S K) (s : Settings) (asked : words_ask words ≡ Ok s) (kept : WritesNothing run.writing) (unfed : AreKept run.tallies) where
  pub Ends-lacking : (status : Status) → LacksFile s run.reading status → Ends words run status
  Ends-lacking statuses.TooLong h = ((s, asked, h.0), h.1, (kept, unfed))
  Ends-lacking statuses.ReadFault h = ((s, asked, h.0), h.1, h.2, (kept, unfed))
  Ends-lacking statuses.OutOfMemory h = ((elim h [ inl none ↦ inl none | inr (none, taken) ↦ inr ((s, asked, none), taken) ]), inl unfed, kept)
  Ends-lacking (statuses.NotForGadget why) h = absurd h
  Ends-lacking (statuses.Budget count) h = absurd h
  Ends-lacking statuses.Yes h = absurd h
  Ends-lacking statuses.No h = absurd h
  Ends-lacking statuses.Listed h = absurd h
  Ends-lacking (statuses.Usage kind) h = absurd h
  Ends-lacking statuses.SizeNotUsed h = absurd h
  Ends-lacking (statuses.File error) h = absurd h
  Ends-lacking (statuses.Wires error) h = absurd h
  Ends-lacking statuses.WriteFault h = absurd h

module _ {S K : Type 0} (words : List (List ℕ)) (run : Run S K) (s : Settings) (bytes : List ℕ) (asked : words_ask words ≡ Ok s)
    (file : HasFile s run.reading bytes) (little : ReadsLittleOf s run.reading) (demo : (made : List ℕ) → made_file s ≡ Some made → IsDemoFile made)
    (kept : WritesNothing run.writing) where
  reads_little : ReadsLittle words run.reading
  reads_little = elim little [ inl none ↦ inl none | inr (none, taken) ↦ inr ((s, asked, none), taken) ]

  -- memory ran out
  pub Ends-memory : (status : Status) → status ≡ statuses.OutOfMemory → FeedsAllOrNone words run → Ends words run status
  Ends-memory status e fed = subst (Ends words run) (sym e) (reads_little, fed, kept)

  -- the check has this gadget
  pub reads : (g : Circuit) (Holds : Settings → Circuit → Type 0) → IsAccepted words bytes s g → Holds (check_of s) g → Reads words run.reading Holds
  reads g Holds accepted holds = record { bytes = bytes; settings = s; gadget = g; file = file; accepted = accepted; holds = holds }

  module _ (unfed : AreKept run.tallies) where
    memory : Ends words run statuses.OutOfMemory
    memory = (reads_little, inl unfed, kept)

    -- the file is refused for its first offence
    offence : (error : FileError) → error ≢ files.OutOfMemory → (error ≢ files.OutOfMemory → FileSays bytes (Err error)) → Ends words run (statuses.File error)
    offence error other refused = elim (made_cases (made_file s)) [
      | inl none ↦
          let read : ReadsAll run.reading bytes = subst (λ (o : Option (List ℕ)). HasFileBy o run.reading bytes) none file in
          (record { other = other; asked = (s, asked, none); bytes = bytes; read = read; says = refused other }, (kept, unfed))
      | inr (made, some) ↦
          let is : (bytes ≡ made) × ReadsNothing run.reading = subst (λ (o : Option (List ℕ)). HasFileBy o run.reading bytes) some file in
          absurd (no_offence made bytes (demo made some) is.0 error (refused other))
    ]

    file_error : (error : FileError) → (error ≢ files.OutOfMemory → FileSays bytes (Err error)) → Ends words run (status_of_file error)
    file_error (files.NotText line) refused = offence (files.NotText line) (λ e. absurd (cc)) refused
    file_error (files.Syntax line) refused = offence (files.Syntax line) (λ e. absurd (cc)) refused
    file_error (files.HeaderTwice line) refused = offence (files.HeaderTwice line) (λ e. absurd (cc)) refused
    file_error (files.HeaderMissing header) refused = offence (files.HeaderMissing header) (λ e. absurd (cc)) refused
    file_error (files.BadNumber line) refused = offence (files.BadNumber line) (λ e. absurd (cc)) refused
    file_error (files.BadName line) refused = offence (files.BadName line) (λ e. absurd (cc)) refused
    file_error (files.NameTwice line) refused = offence (files.NameTwice line) (λ e. absurd (cc)) refused
    file_error (files.Unknown line) refused = offence (files.Unknown line) (λ e. absurd (cc)) refused
    file_error (files.OutputMissing output index) refused = offence (files.OutputMissing output index) (λ e. absurd (cc)) refused
    file_error (files.TooMany things) refused = offence (files.TooMany things) (λ e. absurd (cc)) refused
    file_error files.OutOfMemory refused = memory

    -- the file is refused for its first offence, or memory ran out
    pub Ends-file : (error : FileError) (status : Status) → status ≡ status_of_file error → (error ≢ files.OutOfMemory → FileSays bytes (Err error)) → Ends words run status
    Ends-file error status e refused = subst (Ends words run) (sym e) (file_error error refused)

    unfit : (g : Circuit) (error : WireError) → error ≢ wires.OutOfMemory → FileSays bytes (Ok g) → Refuses g error → Ends words run (statuses.Wires error)
    unfit g error other says refused = elim (made_cases (made_file s)) [
      | inl none ↦
          let read : ReadsAll run.reading bytes = subst (λ (o : Option (List ℕ)). HasFileBy o run.reading bytes) none file in
          (record { other = other; asked = (s, asked, none); bytes = bytes; gadget = g; read = read; says = says; refused = refused }, (kept, unfed))
      | inr (made, some) ↦
          let is : (bytes ≡ made) × ReadsNothing run.reading = subst (λ (o : Option (List ℕ)). HasFileBy o run.reading bytes) some file in
          absurd (no_misfit made bytes (demo made some) is.0 g error other says refused)
    ]

    wire_error : (g : Circuit) (error : WireError) → FileSays bytes (Ok g) → Refuses g error → Ends words run (status_of_wires error)
    wire_error g (wires.TooWide var line) says refused = unfit g (wires.TooWide var line) (λ e. absurd (cc)) says refused
    wire_error g (wires.RandomProduct var line) says refused = unfit g (wires.RandomProduct var line) (λ e. absurd (cc)) says refused
    wire_error g (wires.Degree var line) says refused = unfit g (wires.Degree var line) (λ e. absurd (cc)) says refused
    wire_error g wires.OutOfMemory says refused = memory

    -- the gadget is refused, for its first variable outside the class, or memory ran out
    pub Ends-table : (g : Circuit) (error : WireError) (status : Status) → status ≡ status_of_wires error → FileSays bytes (Ok g) → Refuses g error → Ends words run status
    Ends-table g error status e says refused = subst (Ends words run) (sym e) (wire_error g error says refused)

  -- the check of the gadget is refused
  pub Ends-declined : (g : Circuit) (status : Status) → IsAccepted words bytes s g → Declines (check_of s) g run.tallies status → Ends words run status
  Ends-declined g (statuses.NotForGadget why) accepted h = (reads g (λ s' g'. IsUnsuited s' g' why) accepted h.0, (kept, h.1))
  Ends-declined g (statuses.Budget count) accepted h = (reads g (λ s' g'. IsOverBudget s' g' count) accepted h.0, (kept, h.1))
  Ends-declined g statuses.OutOfMemory accepted h = (
    reads_little,
    (elim h [
      | inl unfed ↦ inl unfed
      | inr fed ↦ inr (reads g (λ s' g'. IsFeasible s' g' × FeedsAnswers s' g' run.tallies) accepted fed)
    ]),
    kept,
  )
  Ends-declined g statuses.Yes accepted h = absurd h
  Ends-declined g statuses.No accepted h = absurd h
  Ends-declined g statuses.Listed accepted h = absurd h
  Ends-declined g (statuses.Usage kind) accepted h = absurd h
  Ends-declined g statuses.SizeNotUsed accepted h = absurd h
  Ends-declined g (statuses.File error) accepted h = absurd h
  Ends-declined g (statuses.Wires error) accepted h = absurd h
  Ends-declined g statuses.TooLong accepted h = absurd h
  Ends-declined g statuses.ReadFault accepted h = absurd h
  Ends-declined g statuses.WriteFault accepted h = absurd h
