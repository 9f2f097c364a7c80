-- What contracts see of a sink in memory, and what a call takes.
use Rattle.std.specs.Prelude.{◌≡◌, ℕ, List, min, ◌⊎◌, Contains}
use Rattle.mask_bytes.specs.Counts.{next_call}

-- what was written, how many bytes there is still room for, the most that a call takes, the numbers of the
-- calls that fail, how many calls were made, and how many of them failed
pub record MemSinkState : Type 0 where
  pub written : List ℕ
  pub room : ℕ
  pub most : ℕ
  pub fails : List ℕ
  pub calls : ℕ
  pub faults : ℕ

-- how many bytes a call that doesn't fail takes of a piece of this length
abbrev pub taken_count : MemSinkState → ℕ → ℕ
taken_count sink len = min sink.most (min len sink.room)

-- the next call is one of those that fail, or it finds no room
abbrev pub NextFails : MemSinkState → Type 0
NextFails sink = Contains sink.fails (next_call sink.calls) ⊎ (sink.room ≡ 0)
