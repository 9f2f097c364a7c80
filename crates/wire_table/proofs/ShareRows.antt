-- Bits of share rows, and the sums of products that they take.
use Rattle.std.proofs.Common.{◌≡◌, ℕ, zero, suc, ◌+◌, ◌/◌, ◌%◌, ◌^◌, ◌<◌, ◌≤◌, Bool, false, ◌&&◌, eqb, List, [], ◌∷◌, ◌++◌, map, length, take, drop, get_or, refl, ap, sym, ◌∙◌, subst, inl, inr, arith, Contains, Result, Ok, Err}
use Rattle.std.specs.Prelude.{bit_xor, replicate}
use Rattle.std.specs.List.{range_with_len}
use Rattle.std.specs.List.Sorted.{IsStrictlyIncreasing, IsBinarySearchResult}
use Rattle.std.specs.Ordering.{nat_cmp}
use Rattle.std.specs.Result.{IsOk, MatchResult}
use Rattle.std.specs.Int.{bit_at}
use Rattle.std.proofs.lemmas.Bool.{cases_lt}
use Rattle.std.proofs.lemmas.Bool.Decides.{eqb_tells}
use Rattle.std.proofs.lemmas.Nat.Bits.{bit_at-zero, bit_at-pow_same, bit_at-pow_other}
use Rattle.std.proofs.lemmas.List.{length-set, length-replicate, get_or-replicate, get_or-set_same, get_or-set_other, get_or-map, get_or_past, get_or_default, take_more, take_all, drop_all, append-nil}
use Rattle.std.proofs.lemmas.List.Kept.{AllPairs-from_increasing}
use Rattle.std.proofs.lemmas.List.Sorted.{searched}
use Rattle.std.proofs.lemmas.Result.{MatchResult-at_ok}
use Rattle.list_laws.proofs.Counts.{map-same}
use Rattle.gadget_model.specs.Bits.{add}
use Rattle.gadget_model.specs.Polynomials.{set_product, polynomial_value}
use Rattle.gadget_model.proofs.Sums.{add-false, add-middle, and-add_left}
use Rattle.bit_lists.specs.BitLists.{chosen_sum}
use Rattle.bit_lists.proofs.NumberBits.{has_bit-xor}
use Rattle.wire_table.specs.Tables.{has_bit, row_bits, product_values, words_for}
use Rattle.wire_table.specs.ShareRows.{flipped, IsShareRow}
use Rattle.wire_table.proofs.TermSums.{polynomial_value-push}

-- the bit of a power, at a place of the same word
bit_of_pow : (p j : ℕ) → p / 64 ≡ j / 64 → eqb (bit_at (2 ^ (p % 64)) (j % 64)) 1 ≡ eqb j p
bit_of_pow p j word = elim (eqb_tells j p) [
  | inl same ↦
      ap (λ (i : ℕ). eqb (bit_at (2 ^ (p % 64)) (i % 64)) 1) same.1
      ∙ ap (λ (b : ℕ). eqb b 1) (bit_at-pow_same (p % 64))
      ∙ sym same.0
  | inr other ↦
      ap (λ (b : ℕ). eqb b 1) (bit_at-pow_other (p % 64) (j % 64) (λ e. other.1 (omega arith))) ∙ sym other.0
]

-- a flip changes one bit
pub has_bit-flipped : (row : List ℕ) (place j : ℕ) → place / 64 < length row → has_bit (flipped row place) j ≡ add (has_bit row j) (eqb j place)
has_bit-flipped row place j l =
    let q = place / 64 in
    let old = get_or row q 0 in
    let new = bit_xor old (2 ^ (place % 64)) in
    elim (eqb_tells (j / 64) q) [
      | inl same ↦
          ap (λ (i : ℕ). eqb (bit_at (get_or (flipped row place) i 0) (j % 64)) 1) same.1
          ∙ ap (λ (w : ℕ). eqb (bit_at w (j % 64)) 1) (get_or-set_same row q new 0 l)
          ∙ has_bit-xor old (2 ^ (place % 64)) (j % 64)
          ∙ ap (add (eqb (bit_at old (j % 64)) 1)) (bit_of_pow place j (sym same.1))
          ∙ ap (λ (i : ℕ). add (eqb (bit_at (get_or row i 0) (j % 64)) 1) (eqb j place)) (sym same.1)
      | inr other ↦
          ap (λ (w : ℕ). eqb (bit_at w (j % 64)) 1) (get_or-set_other row q (j / 64) new 0 other.1)
          ∙ elim (eqb_tells j place) [
            | inl here ↦ absurd (other.1 (ap (λ (i : ℕ). i / 64) here.1))
            | inr there ↦ sym (ap (add (has_bit row j)) there.0 ∙ add-false (has_bit row j))
          ]
    ]

-- a row of zeros has no bit
has_bit-zeros : (n j : ℕ) → has_bit (replicate n 0) j ≡ false
has_bit-zeros n j =
    let none : get_or (replicate n 0) (j / 64) 0 ≡ 0 = elim (cases_lt (j / 64) n) [
      | inl less ↦ get_or-replicate n (j / 64) 0 0 less
      | inr most ↦ get_or_past (replicate n 0) (j / 64) 0 (rw length-replicate most)
    ] in
    ap (λ (w : ℕ). eqb (bit_at w (j % 64)) 1) none ∙ ap (λ (b : ℕ). eqb b 1) (bit_at-zero (j % 64))

-- a choice of nothing
chosen_sum-none : (f : ℕ → Bool) → ((j : ℕ) → f j ≡ false) → (s n : ℕ) (vs : List Bool) → chosen_sum (map f (range_with_len s n)) vs ≡ false
chosen_sum-none f none s zero vs = refl
chosen_sum-none f none s (suc n) [] = refl
chosen_sum-none f none s (suc n) (v ∷ vs) =
    ap (λ (b : Bool). add (b && v) (chosen_sum (map f (range_with_len (s + 1) n)) vs)) (none s) ∙ chosen_sum-none f none (s + 1) n vs

-- a choice to which one place is added
chosen_sum-flip : (f : ℕ → Bool) (p s n : ℕ) (vs : List Bool) → chosen_sum (map (λ j. add (f j) (eqb j p)) (range_with_len s n)) vs
    ≡ add (chosen_sum (map f (range_with_len s n)) vs) (chosen_sum (map (λ j. eqb j p) (range_with_len s n)) vs)
chosen_sum-flip f p s zero vs = refl
chosen_sum-flip f p s (suc n) [] = refl
chosen_sum-flip f p s (suc n) (v ∷ vs) =
    let a = chosen_sum (map f (range_with_len (s + 1) n)) vs in
    let b = chosen_sum (map (λ j. eqb j p) (range_with_len (s + 1) n)) vs in
    ap (add (add (f s) (eqb s p) && v)) (chosen_sum-flip f p (s + 1) n vs)
    ∙ ap (λ (c : Bool). add c (add a b)) (and-add_left (f s) (eqb s p) v)
    ∙ add-middle (f s && v) (eqb s p && v) a b

chosen_sum-only_past : (p s n : ℕ) (vs : List Bool) → p < s → chosen_sum (map (λ j. eqb j p) (range_with_len s n)) vs ≡ false
chosen_sum-only_past p s zero vs l = refl
chosen_sum-only_past p s (suc n) [] l = refl
chosen_sum-only_past p s (suc n) (v ∷ vs) l = elim (eqb_tells s p) [
  | inl same ↦ absurd (let e = same.1 in omega arith)
  | inr other ↦
      ap (λ (b : Bool). add (b && v) (chosen_sum (map (λ j. eqb j p) (range_with_len (s + 1) n)) vs)) other.0
      ∙ chosen_sum-only_past p (s + 1) n vs (omega arith)
]

-- a choice of one place takes the value there
chosen_sum-only : (p s n k : ℕ) (vs : List Bool) → s + k ≡ p → k < n → chosen_sum (map (λ j. eqb j p) (range_with_len s n)) vs ≡ get_or vs k false
chosen_sum-only p s zero k vs e l = absurd (omega arith)
chosen_sum-only p s (suc n) k [] e l = refl
chosen_sum-only p s (suc n) zero (v ∷ vs) e l = elim (eqb_tells s p) [
  | inl same ↦
      ap (λ (b : Bool). add (b && v) (chosen_sum (map (λ j. eqb j p) (range_with_len (s + 1) n)) vs)) same.0
      ∙ ap (add v) (chosen_sum-only_past p (s + 1) n vs (omega arith))
      ∙ add-false v
  | inr other ↦ absurd (other.1 (omega arith))
]
chosen_sum-only p s (suc n) (suc k) (v ∷ vs) e l = elim (eqb_tells s p) [
  | inl same ↦ absurd (let f = same.1 in omega arith)
  | inr other ↦
      ap (λ (b : Bool). add (b && v) (chosen_sum (map (λ j. eqb j p) (range_with_len (s + 1) n)) vs)) other.0
      ∙ chosen_sum-only p (s + 1) n k vs (omega arith) (omega arith)
]

-- a flip adds the value at its place
chosen_sum-flipped : (row : List ℕ) (place n : ℕ) (vs : List Bool) → place / 64 < length row → place < n →
    chosen_sum (row_bits n (flipped row place)) vs ≡ add (chosen_sum (row_bits n row) vs) (get_or vs place false)
chosen_sum-flipped row place n vs word l =
    ap (λ (c : List Bool). chosen_sum c vs)
    (map-same (has_bit (flipped row place)) (λ j. add (has_bit row j) (eqb j place)) (λ j. has_bit-flipped row place j word) (range_with_len 0 n))
    ∙ chosen_sum-flip (has_bit row) place 0 n vs
    ∙ ap (add (chosen_sum (row_bits n row) vs)) (chosen_sum-only place 0 n place vs (omega arith) l)

-- the row of no products
pub IsShareRow-nil : (products row : List ℕ) → row ≡ replicate (words_for (length products)) 0 → IsShareRow products [] row
IsShareRow-nil products row e =
    let zeros = replicate (words_for (length products)) 0 in
    let P : List ℕ → Type 0 = λ w. IsShareRow products [] w in
    subst P (sym e) (record {
      words = length-replicate (words_for (length products)) 0;
      places = λ j l. has_bit-zeros (words_for (length products)) j;
      values = λ x. chosen_sum-none (has_bit zeros) (has_bit-zeros (words_for (length products))) 0 (length products) (product_values products x);
    })

-- the word of a place
pub word_within : (products sets row : List ℕ) (place : ℕ) → IsShareRow products sets row → place < length products → place / 64 < length row
word_within products sets row place good l = let w = good.words in omega arith

-- one product more
pub IsShareRow-more : (products sets row next : List ℕ) (i set place : ℕ) → IsShareRow products (take i sets) row → i < length sets → set ≡ get_or sets i set →
    place < length products → get_or products place 0 ≡ set → next ≡ flipped row place → IsShareRow products (take (i + 1) sets) next
IsShareRow-more products sets row next i set place good l is within at e =
    let n = length products in
    let word = word_within products (take i sets) row place good within in
    let P : List ℕ → Type 0 = λ w. IsShareRow products (take (i + 1) sets) w in
    subst P (sym e) (record {
      words = length-set row (place / 64) (bit_xor (get_or row (place / 64) 0) (2 ^ (place % 64))) ∙ good.words;
      places = λ j past. has_bit-flipped row place j word ∙ ap (λ (b : Bool). add b (eqb j place)) (good.places j past) ∙ elim (eqb_tells j place) [
        | inl same ↦ absurd (let f = same.1 in omega arith)
        | inr other ↦ other.0
      ];
      values = λ x.
          chosen_sum-flipped row place n (product_values products x) word within
          ∙ ap (λ (b : Bool). add b (get_or (product_values products x) place false)) (good.values x)
          ∙ ap (add (polynomial_value 64 (take i sets) x))
          (get_or-map (λ s. set_product 64 s x) products place 0 false within ∙ ap (λ (s : ℕ). set_product 64 s x) (at ∙ is))
          ∙ sym (polynomial_value-push 64 (take i sets) (get_or sets i set) x)
          ∙ ap (λ (ps : List ℕ). polynomial_value 64 ps x) (sym (take_more sets i set l));
    })

-- in rising numbers none is above a later one
rising_le : (xs : List ℕ) → IsStrictlyIncreasing xs → (i j : ℕ) → i ≤ j → j < length xs → get_or xs i 0 ≤ get_or xs j 0
rising_le xs up i j le l = elim (cases_lt i j) [
  | inl less ↦ let h = AllPairs-from_increasing xs up i j 0 less l in omega arith
  | inr most ↦ let e : i ≡ j = omega arith in let f = ap (λ (k : ℕ). get_or xs k 0) e in omega arith
]

ok_from_cases : (xs : List ℕ) (x : ℕ) (r : Result ℕ ℕ) → Contains xs x →
    MatchResult r (λ i. (i < length xs) × (get_or xs i 0 ≡ x)) (λ i. (i ≤ length xs) × ((k : ℕ) → k < i → get_or xs k 0 < x) × ((k : ℕ) → i ≤ k → k < length xs → x < get_or xs k 0)) →
    IsOk r
ok_from_cases xs x (Ok i) among h = refl
ok_from_cases xs x (Err i) (k, l, at) h =
    let e = get_or_default xs k 0 x l ∙ at in
    elim (cases_lt k i) [
      | inl less ↦ absurd (let f = h.1 k less in omega arith)
      | inr most ↦ absurd (let f = h.2 k most l in omega arith)
    ]

-- what stands among rising numbers is found, at its place
pub found : (xs : List ℕ) (x : ℕ) (r : Result ℕ ℕ) → IsStrictlyIncreasing xs → Contains xs x → IsBinarySearchResult (λ y. nat_cmp y x) xs r → IsOk r
found xs x r up among h = ok_from_cases xs x r among (searched xs x r h (rising_le xs up))

pub found_at : (xs : List ℕ) (x : ℕ) (r : Result ℕ ℕ) (i : ℕ) → IsStrictlyIncreasing xs → IsBinarySearchResult (λ y. nat_cmp y x) xs r → r ≡ Ok i →
    (i < length xs) × (get_or xs i 0 ≡ x)
found_at xs x r i up h is =
    MatchResult-at_ok (λ i. (i < length xs) × (get_or xs i 0 ≡ x))
    (λ i. (i ≤ length xs) × ((k : ℕ) → k < i → get_or xs k 0 < x) × ((k : ℕ) → i ≤ k → k < length xs → x < get_or xs k 0)) i is (searched xs x r h (rising_le xs up))

-- what a write to the whole of a vector leaves
pub whole_write : (row new : List ℕ) (n : ℕ) → n ≡ length row → length new ≡ length row → take n (new ++ drop (length new) row) ≡ new
whole_write row new n e l =
    ap (λ (ws : List ℕ). take n (new ++ ws)) (drop_all (length new) row (omega arith)) ∙ ap (take n) (append-nil new) ∙ take_all n new (omega arith)
