-- The checks that settings ask for, and the files of demonstrations.
use Rattle.std.proofs.Common.{◌≡◌, ℕ, ◌≤◌, Bool, true, false, List, Some, Ok, drop, refl, subst}
use Rattle.gadget_maker.specs.Limits.{least_demo_shares, most_demo_shares}
use Rattle.gadget_maker.specs.Texts.{isw_text, refresh_text}
use Rattle.mask_terms.specs.Tasks.{is_demo, leaks}
use Rattle.mask_terms.specs.declared.task.Task.{Task}
use Rattle.mask_terms.specs.declared.task.Task.TheVariants as tasks
use Rattle.notions.specs.declared.notion.Notion.{Notion as NotionKind}
use Rattle.demo_laws.specs.Demos.{IsDemoFile}
use Rattle.demo_laws.proofs.DemoFiles.{isw_file, refresh_file}
use Rattle.mask_words.specs.declared.answer.Settings.{Settings}
use Rattle.mask_words.specs.Answers.{HasDemoShares, IsWellFormed}
use Rattle.mask_words.proofs.Shares.{demo_shares}
use Rattle.mask_check.specs.declared.asked.Asked.TheVariants.{Notion}
use Rattle.mask_check.specs.Demonstrations.{check_by, check_of, made_by, made_file}
use Rattle.mask_check.specs.Questions.{asked_by}
use Rattle.mask_check.specs.Decisions.{IsReady}
use Rattle.mask_check.specs.Ends.{words_ask}

some_is : (a b : List ℕ) → Some a ≡ Some b → a ≡ b
some_is a b e = cc

made_by-demo : (task : Task) (shares : ℕ) → (is_demo task ≡ true → (least_demo_shares ≤ shares) × (shares ≤ most_demo_shares)) → (made : List ℕ) →
    made_by task shares ≡ Some made → IsDemoFile made
made_by-demo tasks.Demo shares few made e =
    let l = few refl in subst IsDemoFile (some_is (isw_text shares) made e) (isw_file shares l.0 l.1)
made_by-demo tasks.DemoRefresh shares few made e =
    let l = few refl in subst IsDemoFile (some_is (refresh_text shares) made e) (refresh_file shares l.0 l.1)
made_by-demo tasks.Ni shares few made e = absurd (cc)
made_by-demo tasks.Tni shares few made e = absurd (cc)
made_by-demo tasks.Sni shares few made e = absurd (cc)
made_by-demo tasks.Pini shares few made e = absurd (cc)
made_by-demo tasks.Rpc shares few made e = absurd (cc)
made_by-demo tasks.Rpe shares few made e = absurd (cc)

-- the file that a check makes is that of a demonstration
pub IsDemoFile-made : (s : Settings) → HasDemoShares s → (made : List ℕ) → made_file s ≡ Some made → IsDemoFile made
IsDemoFile-made s few = made_by-demo s.task s.t few

-- a task that asks for a notion doesn't leak
leaks-from_notion : (task : Task) (n : NotionKind) → asked_by task ≡ Notion n → leaks task ≡ false
leaks-from_notion tasks.Demo n e = refl
leaks-from_notion tasks.DemoRefresh n e = refl
leaks-from_notion tasks.Ni n e = refl
leaks-from_notion tasks.Tni n e = refl
leaks-from_notion tasks.Sni n e = refl
leaks-from_notion tasks.Pini n e = refl
leaks-from_notion tasks.Rpc n e = absurd (cc)
leaks-from_notion tasks.Rpe n e = absurd (cc)

IsReady-by : (s : Settings) (demo : Bool) → is_demo s.task ≡ demo → IsWellFormed s → IsReady (check_by demo s)
IsReady-by s true e formed = record {
  small = formed.small;
  notion_size = λ n h. refl;
  some_workers = formed.some_workers;
  few_workers = formed.few_workers;
  some_block = formed.some_block;
  few_tuples = formed.few_tuples;
  some_words = formed.some_words;
  few_words = formed.few_words;
  check = refl;
}
IsReady-by s false e formed = record {
  small = formed.small;
  notion_size = λ n h. formed.notion_size (leaks-from_notion s.task n h) e;
  some_workers = formed.some_workers;
  few_workers = formed.few_workers;
  some_block = formed.some_block;
  few_tuples = formed.few_tuples;
  some_words = formed.some_words;
  few_words = formed.few_words;
  check = e;
}

-- what holds of all settings makes the check that they ask for ready
pub IsReady-from : (s : Settings) → IsWellFormed s → IsReady (check_of s)
IsReady-from s formed = IsReady-by s (is_demo s.task) refl formed

-- the file that a valid demonstration makes
pub IsDemoFile-valid : (words : List (List ℕ)) (s : Settings) → words_ask words ≡ Ok s → (made : List ℕ) → made_file s ≡ Some made → IsDemoFile made
IsDemoFile-valid words s asked = IsDemoFile-made s (demo_shares (drop 1 words) s asked)
