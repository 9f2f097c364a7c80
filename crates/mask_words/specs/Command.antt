-- The command line as one simple command of clap: two words that must be there, options, and a flag.
use Rattle.std.specs.Prelude.{true, Some, codes, fold}
use Rattle.clap.specs.Words.{App, Rule, Text, new_app, new_rule, with_rule}
use Rattle.clap.specs.declared.builder.ArgAction.TheVariants.{Set, SetTrue}
use Rattle.mask_words.specs.Options.{flag_name, option_names}

-- a word that must be there
abbrev pub required_rule : Text → Rule
required_rule id = record (new_rule id) { required = true; action = Some Set }

-- an option that takes one value
abbrev pub option_rule : Text → Rule
option_rule name = record (new_rule name) { long = Some name; action = Some Set }

-- a flag
abbrev pub flag_rule : Text → Rule
flag_rule name = record (new_rule name) { long = Some name; action = Some SetTrue }

-- the command without clap's own `--help` and `-h`
abbrev pub without_help : App → App
without_help app = record app { top = record app.top { disable_help_flag = true } }

-- the command with one option more
abbrev pub with_option : App → Text → App
with_option app name = with_rule app (option_rule name)

-- the command with its two words alone
abbrev pub two_word_command : App
two_word_command =
    with_rule (with_rule (without_help (new_app (codes "mask"))) (required_rule (codes "TASK")))
    (required_rule (codes "ARG"))

-- the whole command
unfoldable pub mask_command : App
mask_command = with_rule (fold with_option two_word_command option_names) (flag_rule flag_name)
