-- What several reads or writes, one after another, leave of known bytes.
use Rattle.std.specs.Prelude.{◌≡◌, ℕ, ◌^◌, ◌<◌, ◌≤◌, List, length, take, Option, IfSome}
use Rattle.std.specs.Io.KnownBytes.{prepend_known, append_known}

-- A whole read can be allowed at most this many bytes.
abbrev pub most_read : ℕ
most_read = 2 ^ 30

-- what is left is the end of what was left: some bytes were taken from its front, or none
abbrev pub LeavesSuffix : Option (List ℕ) → Option (List ℕ) → Type 0
LeavesSuffix before after = (taken : List ℕ) × (before ≡ prepend_known taken after)

-- exactly so many bytes were taken from the front of what was left
abbrev pub LosesCount : Option (List ℕ) → Option (List ℕ) → ℕ → Type 0
LosesCount before after count = (taken : List ℕ) × (before ≡ prepend_known taken after) × (length taken ≡ count)

-- at most so many bytes were taken from the front of what was left
abbrev pub LosesAtMost : Option (List ℕ) → Option (List ℕ) → ℕ → Type 0
LosesAtMost before after most = (taken : List ℕ) × (before ≡ prepend_known taken after) × (length taken ≤ most)

-- where the bytes are told, there are more than `max`
abbrev pub IsLonger : Option (List ℕ) → ℕ → Type 0
IsLonger told max = IfSome told (λ bytes. max < length bytes)

-- a proper prefix of the bytes was put after what was written
abbrev pub AppendsProperPrefix : Option (List ℕ) → Option (List ℕ) → List ℕ → Type 0
AppendsProperPrefix before after bytes =
    (count : ℕ) × (count < length bytes) × (after ≡ append_known before (take count bytes))
