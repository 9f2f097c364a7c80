-- What tallies count, and what their cells show.
use Rattle.std.specs.Prelude.{ℕ, zero, suc, ◌+◌, ◌-◌, ◌^◌, ◌==◌, List, [], ◌∷◌, length, map, min}
use Rattle.std.specs.Prelude.{slice_index_or, count_by, fold}
use Rattle.std.specs.List.{range_with_len}
use Rattle.tallies.specs.declared.tally.TallyKind.{TallyKind}
use Rattle.tallies.specs.declared.tally.TallyKind.TheVariants.{Size, Item}
use Rattle.tallies.specs.declared.tally.Label.{Label}
use Rattle.tallies.specs.declared.tally.Label.TheVariants as label
use Rattle.tallies.specs.declared.tally.Cell.{Cell}

-- how many labels there are of a kind
abbrev pub most_labels : TallyKind → ℕ
most_labels Size = 256
most_labels Item = 65536

-- the places at which a tuple counts: its size, or each of its items
abbrev pub places : TallyKind → List ℕ → List ℕ
places Size t = length t ∷ []
places Item t = t

-- a count that is raised so many times; the greatest number of 64 bits stays
abbrev pub raised : ℕ → ℕ → ℕ
raised zero count = count
raised (suc times) count = min (raised times count + 1) (2 ^ 64 - 1)

-- Each count is raised as often as its place is listed. A place past the counts changes nothing.
abbrev pub raised_at : List ℕ → List ℕ → List ℕ
raised_at listed counts =
    map (λ k. raised (count_by (λ place. place == k) listed) (slice_index_or counts k 0))
    (range_with_len 0 (length counts))

-- The counts after one tuple more.
abbrev pub counted : TallyKind → List ℕ → List ℕ → List ℕ
counted kind t counts = raised_at (places kind t) counts

-- The counts after some tuples more, one after the other.
abbrev pub counted_all : TallyKind → List (List ℕ) → List ℕ → List ℕ
counted_all kind tuples counts = fold (λ so_far t. counted kind t so_far) counts tuples

-- what a tally counts, and its counts
pub record TallyState : Type 0 where
  pub kind : TallyKind
  pub counts : List ℕ

-- a tally after some tuples more
abbrev pub fed : TallyState → List (List ℕ) → TallyState
fed state tuples = record { kind = state.kind; counts = counted_all state.kind tuples state.counts }

-- what is counted at a place
abbrev pub label_of : TallyKind → ℕ → Label
label_of Size size = label.Size size
label_of Item item = label.Item item

-- Each count with its label.
abbrev pub cells : TallyKind → List ℕ → List Cell
cells kind counts =
    map (λ k. record { label = label_of kind k; count = slice_index_or counts k 0 }) (range_with_len 0 (length counts))
