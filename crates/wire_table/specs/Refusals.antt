-- What a refusal says.
use Rattle.std.specs.Prelude.{◌≡◌, ℕ, Some, slice_get}
use Rattle.gadget_model.specs.Circuit.{Circuit, Variable}
use Rattle.gadget_model.specs.Classes.{too_wide, random_product, degree, IsFirstFault}
use Rattle.wire_table.specs.declared.wire_error.WireError.{WireError}
use Rattle.wire_table.specs.declared.wire_error.WireError.TheVariants.{TooWide, RandomProduct, Degree, OutOfMemory}

-- a variable was made by this line
abbrev pub IsLineOf : Circuit → ℕ → ℕ → Type 0
IsLineOf g var line = (v : Variable) × (slice_get g.variables var ≡ Some v) × (v.line ≡ line)

-- the gadget's first variable with a fault has the one that is named; that memory ran out may be said of any gadget
abbrev pub Refuses : Circuit → WireError → Type 0
Refuses g (TooWide var line) = IsFirstFault g var too_wide × IsLineOf g var line
Refuses g (RandomProduct var line) = IsFirstFault g var random_product × IsLineOf g var line
Refuses g (Degree var line) = IsFirstFault g var degree × IsLineOf g var line
Refuses g OutOfMemory = Unit {0}
