-- The headers so far, whose parts a loop holds apart.
use Rattle.std.proofs.Common.{ℕ, Bool}
use Rattle.std.specs.Prelude.{Option}
use Rattle.gadget_headers.specs.declared.stems.Stems.{Stems}
use Rattle.gadget_headers.specs.declared.so_far.SoFar.{SoFar}

abbrev pub of_parts : Bool × (Option ℕ × (Option Stems × (Option Stems × (Option Stems × Unit {0})))) → SoFar
of_parts parts = record { has_profile = parts.0; shares = parts.1.0; inputs = parts.1.1.0; randoms = parts.1.1.1.0; outputs = parts.1.1.1.1.0 }
