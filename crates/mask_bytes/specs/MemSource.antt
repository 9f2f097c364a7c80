-- What contracts see of a source in memory, and what a call gives.
use Rattle.std.specs.Prelude.{ℕ, List, length, min}

-- the bytes not yet read, the most that a call gives, the numbers of the calls that fail, how many calls
-- were made, and how many of them failed
pub record MemSourceState : Type 0 where
  pub left : List ℕ
  pub most : ℕ
  pub fails : List ℕ
  pub calls : ℕ
  pub faults : ℕ

-- how many bytes a call that doesn't fail gives into a buffer of this length
abbrev pub given_count : MemSourceState → ℕ → ℕ
given_count source room = min source.most (min room (length source.left))
