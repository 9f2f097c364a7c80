-- The items of a command line that is taken, and what clap keeps of them.
use Rattle.std.specs.Prelude.{◌≡◌, ◌==◌, ◌&&◌, Bool, true, List, length, Option, Some, None, codes}
use Rattle.std.specs.Prelude.{if◌then◌else◌, option_and_then, slice_get}
use Rattle.clap.specs.Walk.{Row, first_of, one_of}
use Rattle.mask_words.specs.Options.{flag_name}
use Rattle.mask_words.specs.Reading.{Text, CommandItem, all_differ, given_text, has_flag, is_option, items_from}
use Rattle.mask_words.specs.Reading.{names_given, positionals}

-- There are two positional words, and nothing is given twice.
abbrev pub is_complete : List CommandItem → Bool
is_complete items = (length (positionals items) == 2) && all_differ (names_given items)

-- the items of a command line that is taken
abbrev pub taken_items : List Text → Option (List CommandItem)
taken_items words = option_and_then (λ items. if is_complete items then Some items else None) (items_from None words)

-- What clap kept, its rows, holds what the items say.
pub record Holds (items : List CommandItem) (rows : List Row) : Type 0 where
  pub task : first_of (codes "TASK") rows ≡ slice_get (positionals items) 0
  pub argument : first_of (codes "ARG") rows ≡ slice_get (positionals items) 1
  pub options : (q : Text) → is_option q ≡ true → first_of q rows ≡ given_text q items
  pub flagged : one_of flag_name rows ≡ Some (if has_flag items then codes "true" else codes "false")
