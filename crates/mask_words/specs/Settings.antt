-- The settings that a command line gives, or the first check that fails.
use Rattle.std.specs.Prelude.{ℕ, ◌-◌, ◌&&◌, ◌||◌, not, if◌then◌else◌, List}
use Rattle.std.specs.Prelude.{Option, Some, None, is_some, Result, Ok, Err}
use Rattle.gadget_maker.specs.Limits.{least_demo_shares, most_demo_shares}
use Rattle.mask_terms.specs.Tasks.{is_demo, leaks, task_named}
use Rattle.mask_terms.specs.Wires.{wires_named}
use Rattle.mask_terms.specs.declared.opt.Opt.TheVariants as opt
use Rattle.mask_terms.specs.declared.task.Task.{Task}
use Rattle.mask_terms.specs.declared.usage_kind.UsageKind.TheVariants as kind
use Rattle.mask_terms.specs.declared.wires.Wires.{Wires}
use Rattle.mask_terms.specs.declared.wires.Wires.TheVariants.{Copies}
use Rattle.mask_words.specs.Numbers.{number_between}
use Rattle.mask_words.specs.Options as options
use Rattle.mask_words.specs.Options.{most_order, most_leaking_order}
use Rattle.mask_words.specs.Reading.{CommandLine, command_line}
use Rattle.mask_words.specs.declared.answer.Settings.{Settings}
use Rattle.mask_words.specs.declared.answer.WordsError.{WordsError}
use Rattle.mask_words.specs.declared.answer.WordsError.TheVariants.{Usage, SizeNotUsed}
use Rattle.mask_words.specs.declared.options.NumberOption.{NumberOption}

-- what is there, or this error
abbrev pub or_error : {A : Type 0} → Option A → WordsError → Result A WordsError
or_error (Some a) error = Ok a
or_error None error = Err error

-- the next check, with what this one gives
abbrev pub and_then : {A B : Type 0} → Result A WordsError → (A → Result B WordsError) → Result B WordsError
and_then (Ok a) next = next a
and_then (Err error) next = Err error

-- the number of an option: the default where it isn't given, else that of its text
abbrev pub value_by : NumberOption → Option (List ℕ) → Result ℕ WordsError
value_by option None = Ok option.default
value_by option (Some text) =
    or_error (number_between option.least option.most text) (Usage (kind.Value option.option))

-- the kind of wires: copies where none is given, else that of the text
abbrev pub wires_by : Option (List ℕ) → Result Wires WordsError
wires_by None = Ok Copies
wires_by (Some text) = or_error (wires_named text) (Usage (kind.Value opt.Wires))

-- the least order that a task takes: a demonstration has at least two shares
abbrev pub least_order : Task → ℕ
least_order task = if is_demo task then least_demo_shares else 0

-- the greatest order that a task takes, or the most shares that a demonstration has
abbrev pub greatest_order : Task → ℕ
greatest_order task = if leaks task then most_leaking_order else (if is_demo task then most_demo_shares else most_order)

-- The greatest size of a tuple. A task of random probing has the size that is given beside its order. A notion's size
-- is its order. A demonstration asks about one probe less than there are shares.
abbrev pub size_of : Task → ℕ → ℕ → ℕ
size_of task t given = if leaks task then given else (if is_demo task then t - 1 else t)

-- The settings of a task of an order, where the options' values pass the checks, in the order of their table. Only the
-- tasks of random probing use `--size` and `--wires`.
abbrev pub settings_with : CommandLine → Task → ℕ → Result Settings WordsError
settings_with l task t =
    and_then (value_by options.size l.size) λ size.
    and_then (value_by options.workers l.workers) λ workers.
    and_then (value_by options.block l.block) λ block.
    and_then (value_by options.budget l.budget) λ budget.
    and_then (value_by options.words l.words) λ words.
    and_then (wires_by l.wires) λ wires.
    if not (leaks task) && (is_some l.size || is_some l.wires) then Err SizeNotUsed
    else Ok (record {
      task = task;
      t = t;
      size = size_of task t size;
      workers = workers;
      block = block;
      budget = budget;
      words = words;
      wires = wires;
      tallies = l.tallies;
    })

-- the order of a task, where the argument is one that it takes
abbrev pub order_from : CommandLine → Task → Result ℕ WordsError
order_from l task =
    or_error (number_between (least_order task) (greatest_order task) l.argument) (Usage kind.Argument)

-- The checks of a command line that could be read, in their order.
abbrev pub settings_from : CommandLine → Result Settings WordsError
settings_from l =
    and_then (or_error (task_named l.task) (Usage kind.Task)) λ task.
    and_then (order_from l task) λ t.
    settings_with l task t

-- what the words after the program's name give
abbrev pub settings_of : List (List ℕ) → Result Settings WordsError
settings_of words = and_then (or_error (command_line words) (Usage kind.Words)) settings_from
