-- Whether few enough indices are left, by a count of bits and by a list of indices.
use Rattle.std.proofs.Common.{◌≡◌, ◌≢◌, ◌↔◌, ◌-◌, ◌^◌, ◌<◌, ◌≤◌, ℕ, min, true, leb, List, length, sym, ◌∙◌, inl, inr, arith, Contains, w16}
use Rattle.std.specs.Prelude.{IsTrue, bit_and}
use Rattle.std.specs.Int.{bit_at, bit_not}
use Rattle.std.specs.Int.Count.{ones}
use Rattle.std.specs.List.{filter, range_with_len}
use Rattle.std.proofs.lemmas.Bool.{eqb-true, eq-eqb, cases_eq, leb-true, le-leb}
use Rattle.std.proofs.lemmas.Nat.{and_le_l}
use Rattle.std.proofs.lemmas.Nat.Bits.{bit_at-lt, bit_at_and, bit_at_not}
use Rattle.std.proofs.lemmas.List.Sums.{length-filter}
use Rattle.std.proofs.lemmas.List.Kept.{AllPairs-filter}
use Rattle.gadget_model.specs.Circuit.{Circuit}
use Rattle.gadget_model.specs.Simulation.{HasShare}
use Rattle.wire_table.specs.Items.{Item}
use Rattle.list_laws.proofs.Once.{Once, Contains-from_filter}
use Rattle.wire_table.proofs.Pigeonhole.{length-le}
use Rattle.notions.specs.Inside.{HasShareIndex}
use Rattle.notions.specs.Notions.{HasOutput, HasIndicesIn}
use Rattle.needed.proofs.ShareCounts.{has, ones-count}
use Rattle.wire_table.proofs.Ranges.{Contains-range, lt-from_range, Once-range, Contains-filter, passes-from_filter}

-- the bits of a number of 16, as a list
abbrev places : ℕ → List ℕ
places m = filter (has m) (range_with_len 0 16)

length-places : (m : ℕ) → m < 2 ^ 16 → length (places m) ≡ ones m
length-places m small = length-filter (has m) (range_with_len 0 16) ∙ sym (ones-count m small)

Contains-places : (m i : ℕ) → i < 16 → HasShare m i → Contains (places m) i
Contains-places m i l h = Contains-filter (has m) (range_with_len 0 16) i (Contains-range 16 i l) (eq-eqb (bit_at m i) 1 h)

from_places : (m i : ℕ) → Contains (places m) i → (i < 16) × HasShare m i
from_places m i h =
    (lt-from_range 16 i (Contains-from_filter (has m) (range_with_len 0 16) i h), eqb-true (bit_at m i) 1 (passes-from_filter (has m) (range_with_len 0 16) i h))

Once-places : (m : ℕ) → Once (places m)
Once-places m = AllPairs-filter (λ (a b : ℕ). a ≢ b) (has m) (range_with_len 0 16) (Once-range 16)

-- a bit that the one number has and the other lacks
has_both : (a b c d : ℕ) → a < 2 → b < 2 → c ≡ 1 - b → d ≡ min a c → d ≡ 1 → (a ≡ 1) × (b ≡ 1 → ⊥)
has_both a b c d l m e f h = (omega arith, λ k. omega arith)

both_has : (a b c d : ℕ) → a < 2 → b < 2 → c ≡ 1 - b → d ≡ min a c → a ≡ 1 → (b ≡ 1 → ⊥) → d ≡ 1
both_has a b c d l m e f h k = elim (cases_eq b 1) [ inl y ↦ absurd (k y) | inr n ↦ omega arith ]

module _ (a b i : ℕ) (small : b < 2 ^ 16) (l : i < 16) where
  has-from_without : HasShare (bit_and a (bit_not w16 b)) i → HasShare a i × (HasShare b i → ⊥)
  has-from_without h =
      has_both (bit_at a i) (bit_at b i) (bit_at (bit_not w16 b) i) (bit_at (bit_and a (bit_not w16 b)) i) (bit_at-lt a i) (bit_at-lt b i)
      (bit_at_not w16 b i small l) (bit_at_and a (bit_not w16 b) i) h

  has-without : HasShare a i → (HasShare b i → ⊥) → HasShare (bit_and a (bit_not w16 b)) i
  has-without =
      both_has (bit_at a i) (bit_at b i) (bit_at (bit_not w16 b) i) (bit_at (bit_and a (bit_not w16 b)) i) (bit_at-lt a i) (bit_at-lt b i)
      (bit_at_not w16 b i small l) (bit_at_and a (bit_not w16 b) i)

-- The indices of the shares in a set, and those of the outputs among a tuple's items.
module _ (g : Circuit) (items : List Item) (tuple : List ℕ) (inputs set indices outputs most : ℕ) (count : length g.inputs ≡ inputs)
    (are : (index : ℕ) → index < 16 → HasShare indices index ↔ HasShareIndex inputs set index)
    (are_outputs : (index : ℕ) → HasShare outputs index ↔ HasOutput items tuple index)
    (small : indices < 2 ^ 16) (small_outputs : outputs < 2 ^ 16) where
  abbrev others : ℕ
  others = bit_and indices (bit_not w16 outputs)

  others-small : others < 2 ^ 16
  others-small = omega (arith, and_le_l indices (bit_not w16 outputs))

  -- few bits are left: they are the other indices
  indices-from_ones : ones others ≤ most → (list : List ℕ) × (length list ≤ most) × HasIndicesIn g items tuple list set
  indices-from_ones few = (
    places others,
    omega (arith, length-places others others-small),
    λ input index l m h.
        let there : HasShare indices index = (are index m).1 (input, omega arith, h) in
        elim (cases_eq (bit_at outputs index) 1) [
          | inl out ↦ inl ((are_outputs index).0 out)
          | inr other ↦ inr (Contains-places others index m (has-without indices outputs index small_outputs m there other))
        ],
  )

  -- a list of few other indices has all bits that are left
  ones-from_indices : (list : List ℕ) → length list ≤ most → HasIndicesIn g items tuple list set → ones others ≤ most
  ones-from_indices list few within =
      let each : (index : ℕ) → Contains (places others) index → Contains list index = λ index c.
      let p = from_places others index c in
      let q = has-from_without indices outputs index small_outputs p.0 p.1 in
      let s = (are index p.0).0 q.0 in
      elim (within s.0 index (omega arith) p.0 s.2) [ inl out ↦ absurd (q.1 ((are_outputs index).1 out)) | inr c ↦ c ] in
      let n = length-le (places others) list (Once-places others) each in
      omega (arith, length-places others others-small)

  -- so the count of the bits answers
  pub few_others : (n : ℕ) → n ≡ most →
      IsTrue (leb (ones others) n) ↔ ((list : List ℕ) × (length list ≤ most) × HasIndicesIn g items tuple list set)
  few_others n e =
      let to : leb (ones others) n ≡ true → ones others ≤ most = λ h. let l = leb-true (ones others) n h in omega arith in
      let back : ones others ≤ most → leb (ones others) n ≡ true = λ l. le-leb (ones others) n (omega arith) in
      (λ h. indices-from_ones (to h), λ h. back (ones-from_indices h.0 h.1 h.2))
