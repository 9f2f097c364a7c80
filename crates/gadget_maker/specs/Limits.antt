-- How many shares the demonstration gadgets have.
use Rattle.std.specs.Prelude.{ℕ}

-- A demonstration gadget has at least this many shares.
abbrev pub least_demo_shares : ℕ
least_demo_shares = 2

-- A demonstration gadget has at most this many shares.
abbrev pub most_demo_shares : ℕ
most_demo_shares = 5
