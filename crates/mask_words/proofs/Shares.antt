-- Of how many shares a demonstration is.
use Rattle.std.proofs.Common.{◌≡◌, ℕ, ◌≤◌, ◌&&◌, Bool, true, false, List, Option, Some, None, Ok, Err, refl, ap, ◌∙◌, subst, if◌then◌else◌}
use Rattle.std.specs.Prelude.{Result, nat_le, option_and_then, is_some, not, ◌||◌}
use Rattle.std.proofs.lemmas.Bool.{leb-true}
use Rattle.gadget_maker.specs.Limits.{least_demo_shares, most_demo_shares}
use Rattle.mask_terms.specs.Tasks.{is_demo, leaks, task_named}
use Rattle.mask_terms.specs.declared.task.Task.{Task}
use Rattle.mask_terms.specs.declared.task.Task.TheVariants as tasks
use Rattle.mask_words.specs.Numbers.{number_between, short_number}
use Rattle.mask_terms.specs.declared.usage_kind.UsageKind.TheVariants as kind
use Rattle.mask_terms.specs.declared.wires.Wires.{Wires}
use Rattle.mask_words.proofs.Rows.{both_true}
use Rattle.mask_words.specs.Answers.{HasDemoShares}
use Rattle.mask_words.specs.Options as options
use Rattle.mask_words.specs.Reading.{CommandLine, command_line}
use Rattle.mask_words.specs.Settings.{and_then, or_error, value_by, wires_by, size_of, least_order, greatest_order, order_from, settings_with, settings_from, settings_of}
use Rattle.mask_words.specs.declared.answer.Settings.{Settings}
use Rattle.mask_words.specs.declared.answer.WordsError.{WordsError}
use Rattle.mask_words.specs.declared.answer.WordsError.TheVariants.{Usage, SizeNotUsed}

and_then-ok : {A B : Type 0} (r : Result A WordsError) (next : A → Result B WordsError) (b : B) → and_then r next ≡ Ok b → (a : A) × (r ≡ Ok a) × (next a ≡ Ok b)
and_then-ok (Ok a) next b e = (a, refl, e)
and_then-ok (Err error) next b e = absurd (cc)

or_error-ok : {A : Type 0} (o : Option A) (error : WordsError) (a : A) → or_error o error ≡ Ok a → o ≡ Some a
or_error-ok (Some x) error a e = cc
or_error-ok None error a e = absurd (cc)

in_range : (least most n m : ℕ) (test : Bool) → (nat_le least n && nat_le n most) ≡ test → (if test then Some n else None) ≡ Some m → (least ≤ m) × (m ≤ most)
in_range least most n m true e h =
    let is : n ≡ m = cc in
    let two = both_true (nat_le least n) (nat_le n most) e in
    subst (λ (k : ℕ). (least ≤ k) × (k ≤ most)) is (leb-true least n two.0, leb-true n most two.1)
in_range least most n m false e h = absurd (cc)

within : (least most m : ℕ) (o : Option ℕ) → option_and_then (λ n. if nat_le least n && nat_le n most then Some n else None) o ≡ Some m → (least ≤ m) × (m ≤ most)
within least most m (Some n) e = in_range least most n m (nat_le least n && nat_le n most) refl e
within least most m None e = absurd (cc)

last_of : (refused : Bool) (error : WordsError) (a b : Settings) → (if refused then Err error else Ok a) ≡ Ok b → a ≡ b
last_of true error a b e = absurd (cc)
last_of false error a b e = cc

-- the options' values leave the task and its order
module _ (l : CommandLine) (task : Task) (t : ℕ) (s : Settings) where
  abbrev whole : ℕ → ℕ → ℕ → ℕ → ℕ → Wires → Settings
  whole size workers block budget words wires = record {
    task = task;
    t = t;
    size = size_of task t size;
    workers = workers;
    block = block;
    budget = budget;
    words = words;
    wires = wires;
    tallies = l.tallies;
  }

  kept_by : (size workers block budget words : Result ℕ WordsError) (wires : Result Wires WordsError) →
      (and_then size λ size. and_then workers λ workers. and_then block λ block. and_then budget λ budget. and_then words λ words. and_then wires λ wires.
      if not (leaks task) && (is_some l.size || is_some l.wires) then Err SizeNotUsed else Ok (whole size workers block budget words wires)) ≡ Ok s →
      (task ≡ s.task) × (t ≡ s.t)
  kept_by (Err x) r2 r3 r4 r5 r6 e = absurd (cc)
  kept_by (Ok a) (Err x) r3 r4 r5 r6 e = absurd (cc)
  kept_by (Ok a) (Ok b) (Err x) r4 r5 r6 e = absurd (cc)
  kept_by (Ok a) (Ok b) (Ok c) (Err x) r5 r6 e = absurd (cc)
  kept_by (Ok a) (Ok b) (Ok c) (Ok d) (Err x) r6 e = absurd (cc)
  kept_by (Ok a) (Ok b) (Ok c) (Ok d) (Ok f) (Err x) e = absurd (cc)
  kept_by (Ok a) (Ok b) (Ok c) (Ok d) (Ok f) (Ok g) e =
      let is = last_of (not (leaks task) && (is_some l.size || is_some l.wires)) SizeNotUsed (whole a b c d f g) s e in
      (ap (λ (x : Settings). x.task) is, ap (λ (x : Settings). x.t) is)

  kept : settings_with l task t ≡ Ok s → (task ≡ s.task) × (t ≡ s.t)
  kept = kept_by (value_by options.size l.size) (value_by options.workers l.workers) (value_by options.block l.block)
      (value_by options.budget l.budget) (value_by options.words l.words) (wires_by l.wires)

of_demo : (task : Task) (t : ℕ) → (least_order task ≤ t) × (t ≤ greatest_order task) → is_demo task ≡ true → (least_demo_shares ≤ t) × (t ≤ most_demo_shares)
of_demo tasks.Demo t l e = l
of_demo tasks.DemoRefresh t l e = l
of_demo tasks.Ni t l e = absurd (cc)
of_demo tasks.Tni t l e = absurd (cc)
of_demo tasks.Sni t l e = absurd (cc)
of_demo tasks.Pini t l e = absurd (cc)
of_demo tasks.Rpc t l e = absurd (cc)
of_demo tasks.Rpe t l e = absurd (cc)

from_line : (l : CommandLine) (s : Settings) → settings_from l ≡ Ok s → HasDemoShares s
from_line l s e = λ demo.
    let go : Task → Result Settings WordsError = λ task. and_then (order_from l task) (λ t. settings_with l task t) in
    let (task, of_task, e1) = and_then-ok (or_error (task_named l.task) (Usage kind.Task)) go s e in
    let (t, of_t, e2) = and_then-ok (order_from l task) (λ t. settings_with l task t) s e1 in
    let is = kept l task t s e2 in
    let range = within (least_order task) (greatest_order task) t (short_number l.argument)
    (or_error-ok (number_between (least_order task) (greatest_order task) l.argument) (Usage kind.Argument) t of_t) in
    subst (λ (k : ℕ). (least_demo_shares ≤ k) × (k ≤ most_demo_shares)) is.1
    (of_demo task t range (ap is_demo is.0 ∙ demo))

-- the settings of a demonstration have as many shares as one may have
pub demo_shares : (words : List (List ℕ)) (s : Settings) → settings_of words ≡ Ok s → HasDemoShares s
demo_shares words s e =
    let (l, of_line, e1) = and_then-ok (or_error (command_line words) (Usage kind.Words)) settings_from s e in
    from_line l s e1
