-- The cells of a tally, read at a place.
use Rattle.std.proofs.Common.{◌≡◌, ℕ, ◌≤◌, ◌<◌, List, length, get_or, map, refl, ap, sym, ◌∙◌, subst, inl, inr, Some, None, arith}
use Rattle.std.specs.List.{slice_get, range_with_len}
use Rattle.std.proofs.lemmas.List.FromFn.{length-map-range_with_len, get_or-map-range_with_len}
use Rattle.std.proofs.lemmas.Option.{slice_get-get_or, slice_get_past, slice_get_within, get_or_from_slice_get}
use Rattle.tallies.specs.declared.tally.TallyKind.{TallyKind}
use Rattle.tallies.specs.declared.tally.Cell.{Cell}
use Rattle.tallies.specs.Counting.{cells, label_of}

abbrev cell_of : TallyKind → List ℕ → ℕ → Cell
cell_of kind counts k = record { label = label_of kind k; count = get_or counts k 0 }

pub length-cells : (kind : TallyKind) (counts : List ℕ) → length (cells kind counts) ≡ length counts
length-cells kind counts = length-map-range_with_len (cell_of kind counts) 0 (length counts)

pub cell_within : (kind : TallyKind) (counts : List ℕ) (k count : ℕ) → slice_get counts k ≡ Some count →
    slice_get (cells kind counts) k ≡ Some (record { label = label_of kind k; count = count })
cell_within kind counts k count e =
    let h = slice_get_within counts k count e in
    let below : k < length (cells kind counts) = subst (λ n. k < n) (sym (length-cells kind counts)) h in
    slice_get-get_or (cells kind counts) k (cell_of kind counts k) below
    ∙ ap (λ (c : Cell). Some c) (get_or-map-range_with_len (cell_of kind counts) 0 (length counts) k k (cell_of kind counts k) h (omega arith))
    ∙ ap (λ (n : ℕ). Some (record { label = label_of kind k; count = n })) (get_or_from_slice_get counts k count 0 e)

pub cell_past : (kind : TallyKind) (counts : List ℕ) (k : ℕ) → length counts ≤ k → slice_get (cells kind counts) k ≡ None
cell_past kind counts k h =
    slice_get_past (cells kind counts) k (subst (λ n. n ≤ k) (sym (length-cells kind counts)) h)

pub cell_read : (kind : TallyKind) (counts : List ℕ) (k count : ℕ) → k < length counts → count ≡ get_or counts k count →
    Some (record { label = label_of kind k; count = count }) ≡ slice_get (cells kind counts) k
cell_read kind counts k count h read =
    sym (cell_within kind counts k count (slice_get-get_or counts k count h ∙ ap (λ (n : ℕ). Some n) (sym read)))
