-- How calls and their faults are counted.
use Rattle.std.specs.Prelude.{ℕ, ◌+◌, ◌-◌, ◌^◌, ◌≤◌, min}

-- a count of faults after one more fault: it stands still at the end of its type
abbrev pub raised_count : ℕ → ℕ
raised_count faults = min (faults + 1) (2 ^ 64 - 1)

-- the count is higher than before, or stands at the end of its type
abbrev pub Rose : ℕ → ℕ → Type 0
Rose before now = raised_count before ≤ now

-- the number of the next call after so many calls: it stands still at the end of its type
abbrev pub next_call : ℕ → ℕ
next_call calls = min (calls + 1) (2 ^ 32 - 1)
