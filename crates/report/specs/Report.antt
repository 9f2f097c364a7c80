-- The text of a report.
use Rattle.std.specs.Prelude.{ℕ, ◌==◌, if◌then◌else◌, Bool, true, false, List, [], ◌∷◌, ◌++◌}
use Rattle.std.specs.Prelude.{length, map, flat_map, codes, decimal, slice_index_or}
use Rattle.gadget_model.specs.Circuit.{Circuit}
use Rattle.wire_table.specs.Items.{Item}
use Rattle.wire_table.specs.Whiches.{which_word}
use Rattle.wire_table.specs.declared.which.Which.{Which}
use Rattle.tallies.specs.declared.tally.Label.{Label}
use Rattle.tallies.specs.declared.tally.Label.TheVariants as label
use Rattle.tallies.specs.declared.tally.Cell.{Cell}
use Rattle.mask_terms.specs.Tasks.{task_word}
use Rattle.mask_terms.specs.Wires.{wires_word}
use Rattle.mask_terms.specs.declared.task.Task.{Task}
use Rattle.mask_terms.specs.declared.wires.Wires.{Wires}

abbrev pub newline : List ℕ
newline = 10 ∷ []

-- the check that was asked for: the task, and its order
unfoldable pub check_line : Task → ℕ → List ℕ
check_line task t = codes "check " ++ task_word task ++ codes " " ++ decimal t ++ newline

-- the gadget that was checked
unfoldable pub gadget_line : Circuit → List ℕ
gadget_line g =
    codes "gadget shares " ++ decimal g.shares ++ codes " inputs " ++ decimal (length g.inputs)
    ++ codes " outputs " ++ decimal (length g.outputs) ++ codes " randoms " ++ decimal g.randoms
    ++ codes " variables " ++ decimal (length g.variables) ++ newline

-- how many items there are, of how many of them a tuple has at most, and how many tuples there are
unfoldable pub space_line : ℕ → ℕ → ℕ → List ℕ
space_line items size tuples =
    codes "space items " ++ decimal items ++ codes " size " ++ decimal size
    ++ codes " tuples " ++ decimal tuples ++ newline

-- The head: the check, the gadget, and the tuples that are asked about.
abbrev pub head : Task → ℕ → Circuit → ℕ → ℕ → ℕ → List ℕ
head task t g items size tuples = check_line task t ++ gadget_line g ++ space_line items size tuples

-- the wires that leak: their kind, and how many there are
unfoldable pub wires_line : Wires → ℕ → List ℕ
wires_line wires count = codes "wires " ++ wires_word wires ++ codes " " ++ decimal count ++ newline

-- the event that the lines after it speak of
abbrev pub event_line : List ℕ → List ℕ
event_line name = codes "event " ++ name ++ newline

-- the name of the item with a number
abbrev pub item_name : List Item → ℕ → List ℕ
item_name items i = slice_index_or (map (λ item. item.name) items) i []

-- A line for a failing tuple: its size and the names of its items.
unfoldable pub fail_line : List Item → List ℕ → List ℕ
fail_line items tuple =
    codes "fail " ++ decimal (length tuple) ++ flat_map (λ i. codes " " ++ item_name items i) tuple ++ newline

-- A line for each failing tuple, in order.
abbrev pub fail_lines : List Item → List (List ℕ) → List ℕ
fail_lines items failing = flat_map (fail_line items) failing

-- whether no tuple fails
abbrev pub verdict : Bool → List ℕ
verdict true = codes "verdict yes" ++ newline
verdict false = codes "verdict no" ++ newline

-- numbers, each after a space
abbrev pub spaced : List ℕ → List ℕ
spaced numbers = flat_map (λ n. codes " " ++ decimal n) numbers

-- The failure coefficients of an event, from that of the sets of no wires on.
abbrev pub coefficients_line : List ℕ → List ℕ
coefficients_line list = codes "coefficients" ++ spaced list ++ newline

-- What some events ask over, and at each size the greatest of their coefficients.
abbrev pub greatest_line : Which → List ℕ → List ℕ
greatest_line which list = codes "greatest " ++ which_word which ++ spaced list ++ newline

-- The name of an item, or its number where it is past the items.
abbrev pub name_or_number : List Item → ℕ → List ℕ
name_or_number items i = slice_index_or (map (λ item. item.name) items) i (codes "#" ++ decimal i)

-- what a tally counts at a place
unfoldable pub label_words : List Item → Label → List ℕ
label_words items (label.Size size) = codes "tally size " ++ decimal size
label_words items (label.Item item) = codes "tally item " ++ name_or_number items item

-- A line for a cell of a tally, if it has counted anything.
unfoldable pub tally_line : List Item → Cell → List ℕ
tally_line items cell =
    if cell.count == 0 then [] else label_words items cell.label ++ codes " " ++ decimal cell.count ++ newline
