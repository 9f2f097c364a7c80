-- The table of the options that take a number.
use Rattle.std.specs.Prelude.{ℕ, List, [], ◌∷◌, ◌++◌, map, codes}
use Rattle.mask_terms.specs.Options.{option_name}
use Rattle.mask_terms.specs.declared.opt.Opt.{Opt}
use Rattle.mask_terms.specs.declared.opt.Opt.TheVariants.{Size, Workers, Block, Budget, FirstWords, Wires}
use Rattle.mask_words.specs.declared.options.NumberOption.{NumberOption}

-- the greatest order of a notion, and the greatest size of a tuple
abbrev pub most_order : ℕ
most_order = 6

-- the greatest order of a task of random probing
abbrev pub most_leaking_order : ℕ
most_leaking_order = 16

-- At least this many workers share the tuples.
abbrev pub least_workers : ℕ
least_workers = 1

-- At most this many workers share the tuples.
abbrev pub most_workers : ℕ
most_workers = 64

-- A worker takes at least this many tuples at once.
abbrev pub least_block : ℕ
least_block = 1

-- A worker takes at most this many tuples at once.
abbrev pub most_block : ℕ
most_block = 67108864

-- A budget is for at least this many tuples.
abbrev pub least_budget : ℕ
least_budget = 1

-- At most this many tuples may be looked at.
abbrev pub most_budget : ℕ
most_budget = 67108864

-- A table has at least this many words.
abbrev pub least_words : ℕ
least_words = 4

-- A table has at most this many words.
abbrev pub most_words : ℕ
most_words = 67108864

abbrev pub default_size : ℕ
default_size = 3

abbrev pub default_workers : ℕ
default_workers = 4

abbrev pub default_block : ℕ
default_block = 4096

abbrev pub default_budget : ℕ
default_budget = 16777216

abbrev pub default_words : ℕ
default_words = 65536

-- an option, the least and the greatest number that it takes, and the number that stands where it isn't given
abbrev number_option : Opt → ℕ → ℕ → ℕ → NumberOption
number_option option least most default = record { option = option; least = least; most = most; default = default }

abbrev pub size : NumberOption
size = number_option Size 0 most_order default_size

abbrev pub workers : NumberOption
workers = number_option Workers least_workers most_workers default_workers

abbrev pub block : NumberOption
block = number_option Block least_block most_block default_block

abbrev pub budget : NumberOption
budget = number_option Budget least_budget most_budget default_budget

abbrev pub words : NumberOption
words = number_option FirstWords least_words most_words default_words

-- the options that take a number, in the order in which their values are looked at
abbrev pub number_options : List NumberOption
number_options = size ∷ workers ∷ block ∷ budget ∷ words ∷ []

-- the names of all options that take a value
abbrev pub option_names : List (List ℕ)
option_names = map (λ o. option_name o.option) number_options ++ option_name Wires ∷ []

-- the name of the flag
abbrev pub flag_name : List ℕ
flag_name = codes "tallies"
