-- How large sets of items may be, so that one has a code in a word.
use Rattle.std.specs.Prelude.{ℕ}

-- a query has at most so many items, numbered from 0
abbrev pub most_items : ℕ
most_items = 511

-- a tuple has at most so many items
abbrev pub most_size : ℕ
most_size = 6
