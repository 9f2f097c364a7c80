-- What a call leaves that adds a text byte by byte, for which memory may be refused half way, and what it needs of what
-- it prints.
use Rattle.std.specs.Prelude.{◌≡◌, ℕ, ◌<◌, ◌≤◌, List, ◌++◌, length, All, Result, MatchResult}
use Rattle.wire_table.specs.Items.{Item}
use Rattle.wire_table.specs.declared.which.Which.{Which}
use Rattle.wire_table.specs.declared.which.Which.TheVariants.{Any, Input, Both}

-- the new bytes are the old ones and what was added
abbrev pub Extends : List ℕ → List ℕ → Type 0
Extends old new = (more : List ℕ) × (new ≡ old ++ more)

-- All of the text was added; or memory was refused, and the new bytes begin with the old ones.
abbrev pub Appends : {T E : Type 0} → Result T E → List ℕ → List ℕ → List ℕ → Type 0
Appends result old text new = MatchResult result (λ _. new ≡ old ++ text) (λ _. Extends old new)

-- No event asks of an input past the second, and no word tells such an input from the second.
abbrev pub HasOwnWord : Which → Type 0
HasOwnWord Any = Unit {0}
HasOwnWord (Input k) = k ≤ 1
HasOwnWord Both = Unit {0}

-- the items of a tuple are numbers of these
abbrev pub AreAmong : List Item → List ℕ → Type 0
AreAmong items tuple = All (λ i. i < length items) tuple
