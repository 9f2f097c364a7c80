-- What holds of each answer to a command line, and of the settings that one gives.
use Rattle.std.specs.Prelude.{◌≡◌, ◌≢◌, ◌≤◌, ◌+◌, true, false, Result, Ok, Err, MatchResult}
use Rattle.gadget_maker.specs.Limits.{least_demo_shares, most_demo_shares}
use Rattle.mask_terms.specs.Tasks.{is_demo, leaks}
use Rattle.mask_words.specs.Options.{least_block, least_words, least_workers, most_budget, most_order, most_words, most_workers}
use Rattle.mask_words.specs.Settings.{greatest_order}
use Rattle.mask_words.specs.declared.answer.Settings.{Settings}
use Rattle.mask_words.specs.declared.answer.WordsError.{WordsError}
use Rattle.mask_words.specs.declared.answer.WordsError.TheVariants.{OutOfMemory}

-- The answer is what is said, but that memory may have run out whatever is said.
abbrev pub AgreesWith : Result Settings WordsError → Result Settings WordsError → Type 0
AgreesWith said answer = MatchResult answer (λ s. said ≡ Ok s) (λ e. e ≢ OutOfMemory → said ≡ Err e)

-- a demonstration is of as many shares as one may have
abbrev pub HasDemoShares : Settings → Type 0
HasDemoShares s = is_demo s.task ≡ true → (least_demo_shares ≤ s.t) × (s.t ≤ most_demo_shares)

-- what holds of all settings that a command line gives
pub record IsWellFormed (s : Settings) : Type 0 where
  pub order : s.t ≤ greatest_order s.task
  pub demo_shares : HasDemoShares s
  pub notion_size : leaks s.task ≡ false → is_demo s.task ≡ false → s.size ≡ s.t
  pub demo_size : is_demo s.task ≡ true → s.size + 1 ≡ s.t
  pub small : s.size ≤ most_order
  pub some_workers : least_workers ≤ s.workers
  pub few_workers : s.workers ≤ most_workers
  pub some_block : least_block ≤ s.block
  pub few_tuples : s.budget ≤ most_budget
  pub some_words : least_words ≤ s.words
  pub few_words : s.words ≤ most_words
