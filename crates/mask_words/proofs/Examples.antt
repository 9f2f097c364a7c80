-- What some command lines give.
use Rattle.std.proofs.Common.{refl, codes, true, false, List, [], ◌∷◌, ◌≡◌, ℕ}
use Rattle.std.specs.Prelude.{Ok, Err}
use Rattle.mask_terms.specs.declared.opt.Opt.TheVariants as opt
use Rattle.mask_terms.specs.declared.task.Task.{Task}
use Rattle.mask_terms.specs.declared.task.Task.TheVariants.{Ni, Tni, Sni, Pini, Rpc, Rpe, Demo, DemoRefresh}
use Rattle.mask_terms.specs.declared.usage_kind.UsageKind.{UsageKind}
use Rattle.mask_terms.specs.declared.usage_kind.UsageKind.TheVariants as kind
use Rattle.mask_terms.specs.declared.wires.Wires.TheVariants.{Copies, Plain}
use Rattle.mask_words.specs.Reading.{Text, items_from}
use Rattle.mask_words.specs.Settings.{settings_of}
use Rattle.mask_words.specs.declared.answer.Settings.{Settings}
use Rattle.mask_words.specs.declared.answer.WordsError.TheVariants.{Usage, SizeNotUsed}

-- settings with all defaults
abbrev plain : Task → ℕ → Settings
plain task t = record {
  task = task;
  t = t;
  size = t;
  workers = 4;
  block = 4096;
  budget = 16777216;
  words = 65536;
  wires = Copies;
  tallies = false;
}

abbrev Ask : List Text → Settings → Type 0
Ask words settings = settings_of words ≡ Ok settings

abbrev AreWrong : List Text → UsageKind → Type 0
AreWrong words usage = settings_of words ≡ Err (Usage usage)

-- ---- the words as a whole

no_words : AreWrong [] kind.Words
unfolding items_from
no_words = refl

no_argument : AreWrong (codes "ni" ∷ []) kind.Words
unfolding items_from
no_argument = refl

a_third_word : AreWrong (codes "ni" ∷ codes "1" ∷ codes "2" ∷ []) kind.Words
unfolding items_from
a_third_word = refl

help : AreWrong (codes "--help" ∷ []) kind.Words
unfolding items_from
help = refl

short_help : AreWrong (codes "ni" ∷ codes "1" ∷ codes "-h" ∷ []) kind.Words
unfolding items_from
short_help = refl

an_option_twice :
    AreWrong (codes "ni" ∷ codes "1" ∷ codes "--workers" ∷ codes "2" ∷ codes "--workers=2" ∷ []) kind.Words
unfolding items_from
an_option_twice = refl

the_flag_twice : AreWrong (codes "--tallies" ∷ codes "ni" ∷ codes "1" ∷ codes "--tallies" ∷ []) kind.Words
unfolding items_from
the_flag_twice = refl

a_value_of_the_flag : AreWrong (codes "ni" ∷ codes "1" ∷ codes "--tallies=" ∷ []) kind.Words
unfolding items_from
a_value_of_the_flag = refl

no_value : AreWrong (codes "ni" ∷ codes "1" ∷ codes "--workers" ∷ []) kind.Words
unfolding items_from
no_value = refl

a_name_in_part : AreWrong (codes "ni" ∷ codes "1" ∷ codes "--work=2" ∷ []) kind.Words
unfolding items_from
a_name_in_part = refl

a_separate_value_with_a_hyphen : AreWrong (codes "ni" ∷ codes "1" ∷ codes "--size" ∷ codes "-1" ∷ []) kind.Words
unfolding items_from
a_separate_value_with_a_hyphen = refl

hyphens_for_a_value : AreWrong (codes "ni" ∷ codes "1" ∷ codes "--size" ∷ codes "--" ∷ codes "1" ∷ []) kind.Words
unfolding items_from
hyphens_for_a_value = refl

an_empty_word : AreWrong (codes "ni" ∷ [] ∷ codes "1" ∷ []) kind.Words
unfolding items_from
an_empty_word = refl

an_empty_word_after_hyphens : AreWrong (codes "--" ∷ codes "ni" ∷ [] ∷ []) kind.Words
unfolding items_from
an_empty_word_after_hyphens = refl

a_lone_hyphen_after_hyphens : AreWrong (codes "ni" ∷ codes "--" ∷ codes "-" ∷ []) kind.Words
unfolding items_from
a_lone_hyphen_after_hyphens = refl

-- ---- words that are taken

a_task : Ask (codes "ni" ∷ codes "1" ∷ []) (plain Ni 1)
unfolding items_from
a_task = refl

another_task : Ask (codes "tni" ∷ codes "0" ∷ []) (plain Tni 0)
unfolding items_from
another_task = refl

the_greatest_order : Ask (codes "sni" ∷ codes "6" ∷ []) (plain Sni 6)
unfolding items_from
the_greatest_order = refl

after_hyphens : Ask (codes "pini" ∷ codes "--" ∷ codes "1" ∷ []) (plain Pini 1)
unfolding items_from
after_hyphens = refl

trailing_hyphens : Ask (codes "ni" ∷ codes "1" ∷ codes "--" ∷ []) (plain Ni 1)
unfolding items_from
trailing_hyphens = refl

an_option_first : Ask (codes "--workers=2" ∷ codes "ni" ∷ codes "1" ∷ []) (record (plain Ni 1) { workers = 2 })
unfolding items_from
an_option_first = refl

options_between :
    Ask (codes "--block" ∷ codes "7" ∷ codes "ni" ∷ codes "--words=4" ∷ codes "--tallies"
    ∷ codes "1" ∷ codes "--budget" ∷ codes "67108864" ∷ [])
    (record (plain Ni 1) { block = 7; budget = 67108864; words = 4; tallies = true })
unfolding items_from
options_between = refl

leading_zeros : Ask (codes "ni" ∷ codes "0000000001" ∷ codes "--workers=0000000064" ∷ [])
    (record (plain Ni 1) { workers = 64 })
unfolding items_from
leading_zeros = refl

-- ---- tasks of random probing

the_default_size : Ask (codes "rpc" ∷ codes "1" ∷ []) (record (plain Rpc 1) { size = 3 })
unfolding items_from
the_default_size = refl

a_size_and_wires : Ask (codes "rpe" ∷ codes "2" ∷ codes "--size" ∷ codes "0" ∷ codes "--wires=plain" ∷ [])
    (record (plain Rpe 2) { size = 0; wires = Plain })
unfolding items_from
a_size_and_wires = refl

the_greatest_order_and_size : Ask (codes "rpc" ∷ codes "--size=6" ∷ codes "16" ∷ [])
    (record (plain Rpc 16) { size = 6 })
unfolding items_from
the_greatest_order_and_size = refl

too_many_shares : AreWrong (codes "rpe" ∷ codes "17" ∷ []) kind.Argument
unfolding items_from
too_many_shares = refl

too_great_a_size_of_tuples : AreWrong (codes "rpc" ∷ codes "1" ∷ codes "--size=7" ∷ []) (kind.Value opt.Size)
unfolding items_from
too_great_a_size_of_tuples = refl

-- ---- demonstrations

the_fewest_shares_of_a_demonstration : Ask (codes "demo" ∷ codes "2" ∷ []) (record (plain Demo 2) { size = 1 })
unfolding items_from
the_fewest_shares_of_a_demonstration = refl

the_most_shares_of_a_demonstration :
    Ask (codes "demo-refresh" ∷ codes "--block=1" ∷ codes "5" ∷ [])
    (record (plain DemoRefresh 5) { size = 4; block = 1 })
unfolding items_from
the_most_shares_of_a_demonstration = refl

too_few_shares_of_a_demonstration : AreWrong (codes "demo" ∷ codes "1" ∷ []) kind.Argument
unfolding items_from
too_few_shares_of_a_demonstration = refl

too_many_shares_of_a_demonstration : AreWrong (codes "demo-refresh" ∷ codes "6" ∷ []) kind.Argument
unfolding items_from
too_many_shares_of_a_demonstration = refl

a_size_of_a_demonstration : settings_of (codes "demo" ∷ codes "3" ∷ codes "--size=2" ∷ []) ≡ Err SizeNotUsed
unfolding items_from
a_size_of_a_demonstration = refl

-- ---- the task and its argument

an_unknown_task : AreWrong (codes "xni" ∷ codes "1" ∷ []) kind.Task
unfolding items_from
an_unknown_task = refl

a_task_in_capitals : AreWrong (codes "NI" ∷ codes "1" ∷ []) kind.Task
unfolding items_from
a_task_in_capitals = refl

part_of_the_word_of_a_task : AreWrong (codes "demo-" ∷ codes "2" ∷ []) kind.Task
unfolding items_from
part_of_the_word_of_a_task = refl

the_task_first : AreWrong (codes "xni" ∷ codes "7" ∷ codes "--workers=0" ∷ []) kind.Task
unfolding items_from
the_task_first = refl

too_great_an_order : AreWrong (codes "ni" ∷ codes "7" ∷ []) kind.Argument
unfolding items_from
too_great_an_order = refl

a_sign : AreWrong (codes "ni" ∷ codes "+1" ∷ []) kind.Argument
unfolding items_from
a_sign = refl

no_number : AreWrong (codes "ni" ∷ codes "one" ∷ []) kind.Argument
unfolding items_from
no_number = refl

eleven_digits : AreWrong (codes "ni" ∷ codes "00000000001" ∷ []) kind.Argument
unfolding items_from
eleven_digits = refl

an_option_as_argument : AreWrong (codes "ni" ∷ codes "--" ∷ codes "--size" ∷ []) kind.Argument
unfolding items_from
an_option_as_argument = refl

the_argument_before_values : AreWrong (codes "ni" ∷ codes "7" ∷ codes "--workers=0" ∷ []) kind.Argument
unfolding items_from
the_argument_before_values = refl

-- ---- values of options

an_attached_value_with_a_hyphen : AreWrong (codes "ni" ∷ codes "1" ∷ codes "--size=-1" ∷ []) (kind.Value opt.Size)
unfolding items_from
an_attached_value_with_a_hyphen = refl

an_attached_empty_value : AreWrong (codes "--size=" ∷ codes "ni" ∷ codes "1" ∷ []) (kind.Value opt.Size)
unfolding items_from
an_attached_empty_value = refl

too_great_a_size : AreWrong (codes "ni" ∷ codes "1" ∷ codes "--size=7" ∷ []) (kind.Value opt.Size)
unfolding items_from
too_great_a_size = refl

a_value_with_a_sign : AreWrong (codes "ni" ∷ codes "1" ∷ codes "--workers=+1" ∷ []) (kind.Value opt.Workers)
unfolding items_from
a_value_with_a_sign = refl

no_workers : AreWrong (codes "ni" ∷ codes "1" ∷ codes "--workers" ∷ codes "0" ∷ []) (kind.Value opt.Workers)
unfolding items_from
no_workers = refl

too_many_workers : AreWrong (codes "ni" ∷ codes "1" ∷ codes "--workers" ∷ codes "65" ∷ []) (kind.Value opt.Workers)
unfolding items_from
too_many_workers = refl

no_block : AreWrong (codes "ni" ∷ codes "1" ∷ codes "--block=0" ∷ []) (kind.Value opt.Block)
unfolding items_from
no_block = refl

too_great_a_budget : AreWrong (codes "ni" ∷ codes "1" ∷ codes "--budget=67108865" ∷ []) (kind.Value opt.Budget)
unfolding items_from
too_great_a_budget = refl

too_few_words : AreWrong (codes "ni" ∷ codes "1" ∷ codes "--words=3" ∷ []) (kind.Value opt.FirstWords)
unfolding items_from
too_few_words = refl

no_such_wires : AreWrong (codes "ni" ∷ codes "1" ∷ codes "--wires=all" ∷ []) (kind.Value opt.Wires)
unfolding items_from
no_such_wires = refl

the_first_of_two_values :
    AreWrong (codes "ni" ∷ codes "1" ∷ codes "--wires=all" ∷ codes "--words=3" ∷ codes "--block=0" ∷ [])
    (kind.Value opt.Block)
unfolding items_from
the_first_of_two_values = refl

a_bad_value_before_an_unused_size : AreWrong (codes "ni" ∷ codes "1" ∷ codes "--size=2" ∷ codes "--words=3" ∷ [])
    (kind.Value opt.FirstWords)
unfolding items_from
a_bad_value_before_an_unused_size = refl

-- ---- options that no notion uses

an_unused_size : settings_of (codes "ni" ∷ codes "1" ∷ codes "--size" ∷ codes "2" ∷ []) ≡ Err SizeNotUsed
unfolding items_from
an_unused_size = refl

unused_wires : settings_of (codes "pini" ∷ codes "1" ∷ codes "--wires=plain" ∷ []) ≡ Err SizeNotUsed
unfolding items_from
unused_wires = refl
