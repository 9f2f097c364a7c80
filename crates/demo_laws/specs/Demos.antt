-- What is known of the files that a demonstration checks.
use Rattle.std.specs.Prelude.{◌≡◌, ℕ, ◌≤◌, List, length, Ok}
use Rattle.gadget_model.specs.Circuit.{Circuit}
use Rattle.gadget_model.specs.Classes.{IsInClass}
use Rattle.gadget_text.specs.Limits.{most_file_bytes}
use Rattle.gadget_tree.specs.File.{FileSays}

-- The text is that of a file that may be read. It has no offence, and its gadget is in the class that elimination
-- decides and has one output, so that strong non-interference can be asked of it.
pub record IsDemoFile (text : List ℕ) : Type 0 where
  pub few_bytes : length text ≤ most_file_bytes
  pub gadget : Circuit
  pub says : FileSays text (Ok gadget)
  pub in_class : IsInClass gadget
  pub one_output : length gadget.outputs ≡ 1
