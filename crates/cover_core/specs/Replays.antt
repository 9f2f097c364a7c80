-- What a replay of a list of steps answers.
use Rattle.std.specs.Prelude.{ℕ, List, Result, Ok, Err}
use Rattle.cover_core.specs.declared.state.State.{State}
use Rattle.cover_core.specs.declared.kind.Kind.{Kind}
use Rattle.cover_core.specs.declared.replaying.CoreError.{CoreError}
use Rattle.cover_core.specs.declared.replaying.CoreError.TheVariants.{NotAllowed, OutOfMemory}
use Rattle.cover_core.specs.Core.{Asked}
use Rattle.cover_core.specs.Machine.{IsRun, StopsAt, opening}

-- A state is the end of the run of all steps. A number is that of the first step that isn't allowed. Where memory was
-- not found, nothing is said.
abbrev pub Replays : Asked → ℕ → List (ℕ × Kind) → Result State CoreError → Type 0
Replays a width steps (Ok end) = IsRun a steps (opening width) end
Replays a width steps (Err (NotAllowed k)) = StopsAt a steps (opening width) k
Replays a width steps (Err OutOfMemory) = Unit {0}
