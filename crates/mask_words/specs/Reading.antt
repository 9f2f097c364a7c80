-- What the words of a command line say, word by word.
use Rattle.std.specs.Prelude.{◌==◌, ◌&&◌, Bool, true, false, not, List, [], ◌∷◌, map, Option, Some, None}
use Rattle.std.specs.Prelude.{codes, if◌then◌else◌, option_map, option_and_then}
use Rattle.std.specs.List.{list_any}
use Rattle.std.specs.Str.{bytes_eq}
use Rattle.clap.specs.Lexer.{long_of}
pub use Rattle.clap.specs.Walk.{Text}
use Rattle.mask_terms.specs.Options.{option_name}
use Rattle.mask_terms.specs.declared.opt.Opt.TheVariants.{Size, Workers, Block, Budget, FirstWords, Wires}
use Rattle.mask_words.specs.Options.{flag_name, option_names}

-- a positional word, an option with its value, or the flag
pub data CommandItem : Type 0 where
  positional : Text → CommandItem
  option : Text → Text → CommandItem
  flag : CommandItem

abbrev pub begins_with_hyphen : Text → Bool
begins_with_hyphen [] = false
begins_with_hyphen (x ∷ rest) = x == 45

-- an option that takes a value has this name
abbrev pub is_option : Text → Bool
is_option name = list_any (λ known. bytes_eq known name) option_names

-- an item before those that follow
abbrev pub after : CommandItem → Option (List CommandItem) → Option (List CommandItem)
after item = option_map (λ items. item ∷ items)

-- `--name` or `--name=value`; `rest` reads the words that follow, for the option that waits if any
abbrev pub long_item : Text → Option Text → (Option Text → Option (List CommandItem)) → Option (List CommandItem)
long_item name (Some value) rest = if is_option name then after (option name value) (rest None) else None
long_item name None rest =
    if is_option name then rest (Some name)
    else (if bytes_eq flag_name name then after flag (rest None) else None)

-- an option or the flag; else a positional word, which has no hyphen at its start
abbrev pub other_item : Option (Text × Option Text) → Text → (Option Text → Option (List CommandItem))
    → Option (List CommandItem)
other_item (Some (name, value)) word rest = long_item name value rest
other_item None word rest = if begins_with_hyphen word then None else after (positional word) (rest None)

-- a word where no option waits: after `--` every word is positional
abbrev pub word_item : Text → List Text → (Option Text → Option (List CommandItem)) → Option (List CommandItem)
word_item word words rest =
    if bytes_eq word (codes "--") then Some (map positional words) else other_item (long_of word) word rest

-- a word where an option waits is its value, which has no hyphen at its start
abbrev pub value_item : Text → Text → (Option Text → Option (List CommandItem)) → Option (List CommandItem)
value_item name word rest = if begins_with_hyphen word then None else after (option name word) (rest None)

-- the items that the words are, where the option that waits takes the first as its value
unfoldable pub items_from : Option Text → List Text → Option (List CommandItem)
items_from (Some name) [] = None
items_from None [] = Some []
items_from (Some name) (word ∷ words) = value_item name word (λ waiting. items_from waiting words)
items_from None (word ∷ words) = word_item word words (λ waiting. items_from waiting words)

-- the positional words
abbrev pub positionals : List CommandItem → List Text
positionals [] = []
positionals (positional word ∷ items) = word ∷ positionals items
positionals (_ ∷ items) = positionals items

-- the names of the options and the flag, each as often as it is given
abbrev pub names_given : List CommandItem → List Text
names_given [] = []
names_given (option name value ∷ items) = name ∷ names_given items
names_given (flag ∷ items) = flag_name ∷ names_given items
names_given (_ ∷ items) = names_given items

-- the value of the option with this name
abbrev pub given_text : Text → List CommandItem → Option Text
given_text name [] = None
given_text name (option known value ∷ items) = if bytes_eq known name then Some value else given_text name items
given_text name (_ ∷ items) = given_text name items

-- the flag is given
abbrev pub has_flag : List CommandItem → Bool
has_flag [] = false
has_flag (flag ∷ items) = true
has_flag (_ ∷ items) = has_flag items

-- no name comes twice
abbrev pub all_differ : List Text → Bool
all_differ [] = true
all_differ (name ∷ names) = not (list_any (bytes_eq name) names) && all_differ names

-- an empty word or a hyphen alone
abbrev pub is_lone : Text → Bool
is_lone [] = true
is_lone (c ∷ []) = c == 45
is_lone (c ∷ d ∷ rest) = false

-- the parts of a command line: the task's word and its argument, the options' texts, and whether the flag is there
pub record CommandLine : Type 0 where
  pub task : Text
  pub argument : Text
  pub size : Option Text
  pub workers : Option Text
  pub block : Option Text
  pub budget : Option Text
  pub words : Option Text
  pub wires : Option Text
  pub tallies : Bool

-- the parts, where the positional words are exactly two
abbrev pub two_words : List Text → List CommandItem → Option CommandLine
two_words (task ∷ argument ∷ []) items = Some (record {
  task = task;
  argument = argument;
  size = given_text (option_name Size) items;
  workers = given_text (option_name Workers) items;
  block = given_text (option_name Block) items;
  budget = given_text (option_name Budget) items;
  words = given_text (option_name FirstWords) items;
  wires = given_text (option_name Wires) items;
  tallies = has_flag items;
})
two_words _ items = None

-- the parts, where nothing is given twice
abbrev pub command_line_of : List CommandItem → Option CommandLine
command_line_of items = if all_differ (names_given items) then two_words (positionals items) items else None

-- the parts that the words after the program's name are, where no word is empty or a hyphen alone
abbrev pub command_line : List Text → Option CommandLine
command_line words = if list_any is_lone words then None else option_and_then command_line_of (items_from None words)
